-- What stands at a place of a list where one element was written.
use Rattle.std.proofs.Common.{◌≡◌, ◌≢◌, ℕ, zero, suc, List, [], ◌∷◌, Some, refl, ap}
use Rattle.std.specs.Prelude.{slice_get, slice_set}

module _ {A : Type 0} where
  pub get_set_same : (xs : List A) (i : ℕ) (s t : A) → slice_get xs i ≡ Some s → slice_get (slice_set xs i t) i ≡ Some t
  get_set_same [] i s t e = absurd (let b : ⊥ = cc in b)
  get_set_same (x ∷ xs) zero s t e = refl
  get_set_same (x ∷ xs) (suc i) s t e = get_set_same xs i s t e

  pub get_set_other : (xs : List A) (i j : ℕ) (t : A) → j ≢ i → slice_get (slice_set xs j t) i ≡ slice_get xs i
  get_set_other [] i j t n = refl
  get_set_other (x ∷ xs) zero zero t n = absurd (n refl)
  get_set_other (x ∷ xs) zero (suc j) t n = refl
  get_set_other (x ∷ xs) (suc i) zero t n = refl
  get_set_other (x ∷ xs) (suc i) (suc j) t n = get_set_other xs i j t (λ e. n (ap suc e))
