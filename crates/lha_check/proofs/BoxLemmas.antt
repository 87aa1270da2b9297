-- Variables without a box.
use Rattle.std.proofs.Common.{◌≡◌, ℕ, List, [], ◌∷◌, Bool, true, false, ◌||◌, not, cond, Option, Some, None, refl, ap, bytes_eq}
use Rattle.std.specs.List.{list_any, find}
use Rattle.lang_specs.specs.Trees.{BoxTree}
use Rattle.model_specs.specs.Faults.{ModelFault, MissingSlope, missing_slope}

module _ {X : Type 0} where
  none_step : (b : Bool) (x : X) (any : Bool) (o : Option X) → (any ≡ false → o ≡ None) → (b || any) ≡ false → cond b (Some x) o ≡ None
  none_step true x any o k e = absurd (let b : ⊥ = cc in b)
  none_step false x any o k e = k e

  some_step : (b : Bool) (x : X) (any : Bool) (o : Option X) → (any ≡ true → (y : X) × (o ≡ Some y)) → (b || any) ≡ true → (y : X) × (cond b (Some x) o ≡ Some y)
  some_step true x any o k e = (x, refl)
  some_step false x any o k e = k e

  finds_none : (p : X → Bool) (xs : List X) → list_any p xs ≡ false → find p xs ≡ None
  finds_none p [] e = refl
  finds_none p (x ∷ xs) e = none_step (p x) x (list_any p xs) (find p xs) (finds_none p xs) e

  finds_some : (p : X → Bool) (xs : List X) → list_any p xs ≡ true → (y : X) × (find p xs ≡ Some y)
  finds_some p [] e = absurd (let b : ⊥ = cc in b)
  finds_some p (x ∷ xs) e = some_step (p x) x (list_any p xs) (find p xs) (finds_some p xs) e

pub missing_here : (line : ℕ) (boxes : List BoxTree) (var : List ℕ) (vars : List (List ℕ)) → list_any (λ b. bytes_eq b.var var) boxes ≡ false →
    missing_slope line boxes (var ∷ vars) ≡ MissingSlope line var ∷ []
missing_here line boxes var vars e =
    ap (λ (o : Option BoxTree). elim o as (λ z. List ModelFault) [ None ↦ MissingSlope line var ∷ [] | Some b ↦ missing_slope line boxes vars ])
    (finds_none (λ b. bytes_eq b.var var) boxes e)

pub missing_past : (line : ℕ) (boxes : List BoxTree) (var : List ℕ) (vars : List (List ℕ)) → list_any (λ b. bytes_eq b.var var) boxes ≡ true →
    missing_slope line boxes (var ∷ vars) ≡ missing_slope line boxes vars
missing_past line boxes var vars e =
    ap (λ (o : Option BoxTree). elim o as (λ z. List ModelFault) [ None ↦ MissingSlope line var ∷ [] | Some b ↦ missing_slope line boxes vars ])
    (finds_some (λ b. bytes_eq b.var var) boxes e).1

-- ---- tests

pub not_true : (b : Bool) → not b ≡ true → b ≡ false
not_true true e = absurd (let b : ⊥ = cc in b)
not_true false e = refl

pub not_false : (b : Bool) → not b ≡ false → b ≡ true
not_false true e = refl
not_false false e = absurd (let b : ⊥ = cc in b)
