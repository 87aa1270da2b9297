-- What the answers of the parsers say, in the words of the definitions.
use Rattle.std.specs.Prelude.{◌≡◌, ℕ, List, ⊤, Option, Result, Ok, Err, Vec}
use Rattle.std.specs.declared.alloc.Global.{Global}
use Rattle.poly_specs.specs.Fractions.{Fraction}
use Rattle.log_specs.specs.declared.Refusal.{Refusal}
use Rattle.log_specs.specs.declared.Refusal.TheVariants as why
use Rattle.log_specs.specs.LogRows.{WatchRow, Cells, opening, sample, closing, flush}
use Rattle.log_reader.specs.declared.refusal.RowRefusal.{RowRefusal}
use Rattle.log_reader.specs.declared.refusal.RowRefusal.TheVariants.{Long, Text, Fields, Name, Number, Memory}
use Rattle.log_reader.specs.declared.rows.LogRow.{LogRow}
use Rattle.log_reader.specs.declared.rows.LogRow.TheVariants.{Opening, Sample, Closing, Flush}

-- the row that a row of `watch` is
abbrev pub row_said : LogRow → WatchRow
row_said (Opening session automaton columns) = opening session.items automaton columns.items
row_said (Sample session time cells) = sample session.items time cells.items
row_said (Closing session) = closing session.items
row_said Flush = flush

-- the time and the cells of a line
abbrev pub cells_said : Fraction × Vec (Option Fraction) Global → Cells
cells_said p = record { time = p.0; cells = p.1.items }

-- the line is refused for this cause; want of memory may come at any line
abbrev pub IsRefused : {A : Type 0} → RowRefusal → Result A Refusal → Type 0
IsRefused Long r = r ≡ Err why.Long
IsRefused Text r = r ≡ Err why.Text
IsRefused Fields r = r ≡ Err why.Fields
IsRefused Name r = r ≡ Err why.Name
IsRefused Number r = r ≡ Err why.Number
IsRefused Memory r = ⊤
