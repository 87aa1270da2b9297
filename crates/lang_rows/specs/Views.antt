-- What the reader of constraints holds, without where it lies in memory.
use Rattle.std.specs.Prelude.{List, Option, Some, None, map}
use Rattle.lang_specs.specs.declared.Sign.{Sign}
use Rattle.lang_rows.specs.declared.expressions.FactorText.{FactorText}
use Rattle.lang_rows.specs.declared.expressions.FactorText.TheVariants as factors
use Rattle.lang_rows.specs.declared.expressions.TermText.{TermText}
use Rattle.lang_rows.specs.declared.expressions.TermPlace.{TermPlace}
use Rattle.lang_rows.specs.declared.expressions.TermPlace.TheVariants as places
use Rattle.lang_rows.specs.declared.rows.RowText.{RowText}
use Rattle.lang_rows.specs.declared.rows.RowReader.{RowReader}
use Rattle.lang_rows.specs.declared.rows.RowsReader.{RowsReader}
use Rattle.lang_rows.specs.declared.rows.RowsReader.TheVariants as readers
use Rattle.lang_tokens.specs.Machines.{Reading}
use Rattle.lang_rows.specs.Texts.{Factor, literal, scaled, plain, Term, Row}
use Rattle.lang_rows.specs.ExprMachine as machine
use Rattle.lang_rows.specs.RowMachine.{Place, on_left, on_right, State, at_first, behind_true, true_ended, in_rows}

abbrev pub factor_of : FactorText → Factor
factor_of (factors.Literal l) = literal l.now
factor_of (factors.Scaled l v) = scaled l.now v.now
factor_of (factors.Plain v) = plain v.now

abbrev pub term_of : TermText → Term
term_of t = record { neg = t.neg; factor = factor_of t.factor }

abbrev pub place_of : TermPlace → machine.TermPlace
place_of (places.Term neg) = machine.at_term neg
place_of (places.Number neg l) = machine.at_number neg l.now
place_of (places.Times neg l) = machine.at_times neg l.now
place_of (places.Named t) = machine.at_named (term_of t)

abbrev pub row_of : RowText → Row
row_of r = record { left = map term_of r.left.items; sign = r.sign; right = map term_of r.right.items }

abbrev pub side_of : Option Sign → List Term → machine.ExprPlace → Place
side_of None left e = on_left e
side_of (Some s) left e = on_right left s e

abbrev pub reading_of : RowReader → Reading Place Row
reading_of r = record { done = map row_of r.done.items; place = side_of r.sign (map term_of r.left.items) (record { terms = map term_of r.terms.items; place = place_of r.place }); has_ended = r.has_ended }

abbrev pub state_of : RowsReader → State
state_of readers.First = at_first
state_of readers.True = behind_true
state_of readers.Ended = true_ended
state_of (readers.Rows r) = in_rows (reading_of r)
