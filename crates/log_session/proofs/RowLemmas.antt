-- What is told of a part of a row is told of the row.
use Rattle.std.proofs.Common.{◌≡◌, ℕ, List, [], ◌∷◌, Bool, true, false, cond, find, Option, Some, None, Ok, sym, ap, ◌∙◌, subst, bytes_eq}
use Rattle.std.specs.Prelude.{All, IfSome}
use Rattle.std.specs.Option.{option_map}
use Rattle.std.proofs.lemmas.List.Elements.{All-head, All-tail}
use Rattle.run_specs.specs.Automaton.{Automaton}
use Rattle.log_specs.specs.LogRows.{Cells, opening, sample, closing}
use Rattle.log_specs.specs.LogSessions.{automaton_of, judge_opening, session_of}
use Rattle.log_session.specs.Progress.{Progress}
use Rattle.log_session.specs.Told.{TellsRow, TellsOpening, TellsClosing, TellsSample}
use Rattle.log_session.proofs.ToldLemmas.{told_as}

pub row_opening : (p new : Progress) (number : ℕ) (name automaton : List ℕ) (columns : List (List ℕ)) (a : Option Automaton) (before after : List ℕ) →
    a ≡ automaton_of p.models automaton → TellsOpening p new number name columns a before after → TellsRow p new number (Ok (opening name automaton columns)) before after
row_opening p new number name automaton columns a before after is told = λ task of.
    told_as task p new number (judge_opening p.known.state name columns (automaton_of task.models automaton) (session_of p.known.state name))
    (judge_opening p.known.state name columns a (session_of p.known.state name)) before after
    (ap (λ o. judge_opening p.known.state name columns o (session_of p.known.state name)) (ap (λ ms. automaton_of ms automaton) of.models ∙ sym is))
    (told task of)

pub row_closing : (p new : Progress) (number : ℕ) (name before after : List ℕ) → TellsClosing p new number name before after →
    TellsRow p new number (Ok (closing name)) before after
row_closing p new number name before after told = told

pub row_sample : (p new : Progress) (number : ℕ) (name : List ℕ) (c : Cells) (before after : List ℕ) → TellsSample p new number name c before after →
    TellsRow p new number (Ok (sample name c.time c.cells)) before after
row_sample p new number name c before after told = told

-- ---- the automaton of a row

find_has : {A : Type 0} (P : A → Type 0) (test : A → Bool) (xs : List A) → All P xs → IfSome (find test xs) P
find_has P test [] h = tt
find_has P test (x ∷ xs) h = by (test x) (find_has P test xs (All-tail P x xs h))
  where
    by : (b : Bool) → IfSome (find test xs) P → IfSome (cond b (Some x) (find test xs)) P
    by true rest = All-head P x xs h
    by false rest = rest

of_mapped : {A B : Type 0} (f : A → B) (P : B → Type 0) (o : Option A) → IfSome (option_map f o) P → IfSome o (λ a. P (f a))
of_mapped f P None h = h
of_mapped f P (Some a) h = h

-- what holds of each automaton holds of the one that is found by a name
pub named_has : {A : Type 0} (f : A → Automaton) (P : Automaton → Type 0) (models : List Automaton) (name : List ℕ) (o : Option A) → option_map f o ≡ automaton_of models name →
    All P models → IfSome o (λ a. P (f a))
named_has f P models name o e h = of_mapped f P o (subst (λ q. IfSome q P) (sym e) (find_has P (λ a. bytes_eq name a.name) models h))
