-- Openings that are none.
use Rattle.std.proofs.Common.{◌≡◌, ℕ, ◌<◌, List, [], ◌∷◌, length, map, Bor, Bool, true, false, ◌&&◌, if◌then◌else◌, IsTrue, Result, Ok, Err, arith, refl, ap, ◌∙◌}
use Rattle.std.specs.List.{list_all}
use Rattle.run_specs.specs.Names.{is_name}
use Rattle.log_specs.specs.SessionNames.{is_session_name}
use Rattle.log_specs.specs.declared.Refusal.{Refusal}
use Rattle.log_specs.specs.declared.Refusal.TheVariants as why
use Rattle.log_specs.specs.LogRows.{WatchRow, opening_of, opening}
use Rattle.log_reader.proofs.NameLemmas.{not_true}

pub short_opening : (fields : List (Bor (List ℕ))) → length fields < 2 → opening_of (map (λ f. f.now) fields) ≡ Err why.Fields
short_opening [] l = refl
short_opening (field ∷ []) l = refl
short_opening (field ∷ more ∷ fields) l = absurd (omega (arith, l))

and_or_else : (s c : Bool) (x y : Result WatchRow Refusal) → (if s && false && c then x else y) ≡ y
and_or_else true c x y = refl
and_or_else false c x y = refl

pub no_automaton : (session automaton : List ℕ) (columns : List (List ℕ)) → (IsTrue (is_name automaton) → ⊥) → opening_of (session ∷ automaton ∷ columns) ≡ Err why.Name
no_automaton session automaton columns h =
    ap (λ t. if is_session_name session && t && list_all is_name columns then Ok (opening session automaton columns) else Err why.Name) (not_true (is_name automaton) h)
    ∙ and_or_else (is_session_name session) (list_all is_name columns) (Ok (opening session automaton columns)) (Err why.Name)
