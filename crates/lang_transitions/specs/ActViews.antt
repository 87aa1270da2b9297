-- What the reader of acts holds, without where it lies in memory.
use Rattle.std.specs.Prelude.{◌≡◌, List, Option, Some, None, map}
use Rattle.std.specs.List.{list_all}
use Rattle.lang_tokens.specs.Machines.{Reading}
use Rattle.lang_rows.specs.declared.expressions.TermText.{TermText}
use Rattle.lang_rows.specs.Texts.{Term}
use Rattle.lang_rows.specs.ExprMachine.{ExprPlace}
use Rattle.lang_rows.specs.Views as rows
use Rattle.lang_transitions.specs.declared.expression.ExprReader.{ExprReader}
use Rattle.lang_transitions.specs.declared.expression.Taken.{Taken}
use Rattle.lang_transitions.specs.declared.expression.Taken.TheVariants as steps
use Rattle.lang_transitions.specs.declared.acts.ActText.{ActText}
use Rattle.lang_transitions.specs.declared.acts.ActText.TheVariants as texts
use Rattle.lang_transitions.specs.declared.acts.ActPlace.{ActPlace}
use Rattle.lang_transitions.specs.declared.acts.ActPlace.TheVariants as places
use Rattle.lang_transitions.specs.declared.acts.ActReader.{ActReader}
use Rattle.lang_transitions.specs.ActMachine as machine

abbrev pub terms_of : List TermText → List Term
terms_of ts = map rows.term_of ts

abbrev pub expr_of : ExprReader → ExprPlace
expr_of e = record { terms = terms_of e.terms.items; place = rows.place_of e.place }

abbrev pub act_of : ActText → machine.Act
act_of (texts.Set v e) = machine.sets v.now (terms_of e.items)
act_of (texts.Within v lo hi) = machine.within v.now (terms_of lo.items) (terms_of hi.items)
act_of (texts.Free v) = machine.frees v.now

abbrev pub place_of : ActPlace → machine.Place
place_of places.Act = machine.at_act
place_of places.Free = machine.at_free
place_of (places.Verb v) = machine.at_verb v.now
place_of (places.Value v e) = machine.at_value v.now (expr_of e)
place_of (places.Open v) = machine.at_open v.now
place_of (places.Lo v e) = machine.at_lo v.now (expr_of e)
place_of (places.Hi v lo e) = machine.at_hi v.now (terms_of lo.items) (expr_of e)
place_of (places.Behind a) = machine.behind (act_of a)

abbrev pub reading_of : ActReader → Reading machine.Place machine.Act
reading_of r = record { done = map act_of r.done.items; place = place_of r.place; has_ended = r.has_ended }

-- the reader knows whether the acts that are complete have few terms
abbrev pub KnowsFew : ActReader → Type 0
KnowsFew r = r.few ≡ list_all machine.few_act (map act_of r.done.items)

-- What a token does: it goes on to the next place, or no place is next and it stands behind what is complete, or neither.
abbrev pub Takes : {A B P X : Type 0} → (A → P) → (B → X) → Option P → Option X → Taken A B → Type 0
Takes place made next complete (steps.Inside p) = next ≡ Some (place p)
Takes place made next complete (steps.Behind x) = (next ≡ None) × (complete ≡ Some (made x))
Takes place made next complete steps.Refused = (next ≡ None) × (complete ≡ None)
