-- What stands in a list of sessions or samples.
use Rattle.std.proofs.Common.{◌≡◌, ◌⊎◌, inl, inr, ℕ, zero, suc, List, [], ◌∷◌, Some, sym}
use Rattle.std.specs.Prelude.{slice_get, slice_set}
use Rattle.poly_specs.specs.Lists.{In}

module _ {A : Type 0} where
  pub in_set : (xs : List A) (i : ℕ) (t x : A) → In x (slice_set xs i t) → (x ≡ t) ⊎ In x xs
  in_set [] i t x h = absurd h
  in_set (y ∷ xs) zero t x (inl e) = inl e
  in_set (y ∷ xs) zero t x (inr h) = inr (inr h)
  in_set (y ∷ xs) (suc i) t x (inl e) = inr (inl e)
  in_set (y ∷ xs) (suc i) t x (inr h) = elim (in_set xs i t x h) [ inl e ↦ inl e | inr k ↦ inr (inr k) ]

  pub in_get : (xs : List A) (i : ℕ) (s : A) → slice_get xs i ≡ Some s → In s xs
  in_get [] i s e = absurd (let b : ⊥ = cc in b)
  in_get (x ∷ xs) zero s e = inl (let f : x ≡ s = cc in sym f)
  in_get (x ∷ xs) (suc i) s e = inr (in_get xs i s e)
