-- Names that are looked at from the left.
use Rattle.std.proofs.Common.{◌≡◌, ℕ, List, [], ◌∷◌, ◌++◌, Bool, true, false, ◌&&◌, IsTrue, ◌≤◌, length, map, get_or, Bor, arith, refl, sym, ◌∙◌, ap}
use Rattle.std.specs.List.{list_all}
use Rattle.std.proofs.lemmas.List.Folds.{list_all-append}
use Rattle.run_specs.specs.Names.{is_name}

pub not_true : (t : Bool) → (IsTrue t → ⊥) → t ≡ false
not_true true h = absurd (h refl)
not_true false h = refl

and_false : (t : Bool) → (t && false) ≡ false
and_false true = refl
and_false false = refl

pub not_names : (names rest all others : List (List ℕ)) (field : List ℕ) → (IsTrue (is_name field) → ⊥) → rest ≡ field ∷ others → names ++ rest ≡ all → list_all is_name all ≡ false
not_names names rest all others field h is known =
    ap (list_all is_name) (sym known ∙ ap (λ xs. names ++ xs) is)
    ∙ list_all-append is_name names (field ∷ others)
    ∙ ap (λ t. list_all is_name names && (t && list_all is_name others)) (not_true (is_name field) h)
    ∙ and_false (list_all is_name names)

pub not_names_at : (names all : List (List ℕ)) (rest : List (Bor (List ℕ))) (none : Bor (List ℕ)) → 1 ≤ length rest → (IsTrue (is_name (get_or rest 0 none).now) → ⊥) →
    names ++ map (λ f. f.now) rest ≡ all → list_all is_name all ≡ false
not_names_at names all [] none l h known = absurd (omega (arith, l))
not_names_at names all (field ∷ rest) none l h known = not_names names (map (λ f. f.now) (field ∷ rest)) all (map (λ f. f.now) rest) field.now h refl known
