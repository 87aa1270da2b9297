-- How many rows are left, and which numbers are formed.
use Rattle.std.proofs.Common.{◌≡◌, inl, inr, ℕ, suc, ◌+◌, ◌≤◌, Bool, true, false, cond, List, [], ◌∷◌, length, map, filter, refl, sym, ◌∙◌, ap, subst, arith, pos, ◌<ℤ◌}
use Rattle.std.specs.List.{Any, flat_map}
use Rattle.std.specs.Prelude.{int_lt}
use Rattle.std.proofs.lemmas.Int.{ints}
use Rattle.poly_specs.proofs.InclusionLemmas.{in_filter, in_flat_map}
use Rattle.poly_specs.specs.Bits.{PassesBits, SomePasses}
use Rattle.poly_specs.specs.Elimination.{formed, pair_numbers, lowers, uppers}
use Rattle.poly_specs.specs.Lists.{In}
use Rattle.poly_specs.specs.Rows.{Row, coef_at}
use Rattle.fm_eliminate.proofs.PivotLemmas.{in_item}

-- ---- elements that a test drops

module _ {X : Type 0} (p : X → Bool) (f : X → X) where
  at_most_one : (b : Bool) (x : X) (xs : List X) → length (cond b (x ∷ xs) xs) ≤ length xs + 1
  at_most_one true x xs = omega arith
  at_most_one false x xs = omega arith

  none_at : (b : Bool) (x : X) (xs : List X) → b ≡ false → length (cond b (x ∷ xs) xs) ≡ length xs
  none_at true x xs e = cc
  none_at false x xs e = refl

  step : (x : X) (xs : List X) → length (filter p (map f (x ∷ xs))) ≤ length (filter p (map f xs)) + 1
  step x xs = at_most_one (p (f x)) (f x) (filter p (map f xs))

  dropped : (x y : X) (xs : List X) → y ≡ x → p (f y) ≡ false → length (filter p (map f (x ∷ xs))) ≡ length (filter p (map f xs))
  dropped x y xs d e = none_at (p (f x)) (f x) (filter p (map f xs)) (ap (λ z. p (f z)) (sym d) ∙ e)

  none_less : (xs : List X) → length (filter p (map f xs)) ≤ length xs
  none_less [] = omega arith
  none_less (x ∷ xs) = omega (arith, step x xs, none_less xs)

  one_less : (xs : List X) (y : X) → In y xs → p (f y) ≡ false → length (filter p (map f xs)) + 1 ≤ length xs
  one_less [] y i e = absurd i
  one_less (x ∷ xs) y (inl d) e = omega (arith, none_less xs, dropped x y xs d e)
  one_less (x ∷ xs) y (inr i) e = omega (arith, step x xs, one_less xs y i e)

  -- of elements among which two are dropped
  pub two_less : (xs : List X) (y z : X) → In y xs → In z xs → (y ≡ z → ⊥) → p (f y) ≡ false → p (f z) ≡ false →
      length (filter p (map f xs)) + 2 ≤ length xs
  two_less [] y z i j n e g = absurd i
  two_less (x ∷ xs) y z (inl d) (inl c) n e g = absurd (n (d ∙ sym c))
  two_less (x ∷ xs) y z (inl d) (inr j) n e g = omega (arith, one_less xs z j g, dropped x y xs d e)
  two_less (x ∷ xs) y z (inr i) (inl c) n e g = omega (arith, one_less xs y i e, dropped x z xs c g)
  two_less (x ∷ xs) y z (inr i) (inr j) n e g = omega (arith, step x xs, two_less xs y z i j n e g)

-- ---- numbers that are formed

pub any_in : {X : Type 0} (P : X → Type 0) (xs : List X) (x : X) → In x xs → P x → Any P xs
any_in P [] x i h = absurd i
any_in P (y ∷ xs) x (inl e) h = (0, y, omega arith, refl, subst P e h)
any_in P (y ∷ xs) x (inr i) h = let (k, z, lt, at, g) = any_in P xs x i h in (suc k, z, omega arith, at, g)

pub lower-In : (x : ℕ) (rows : List Row) (r : Row) → In r rows → coef_at x r <ℤ pos 0 → In r (lowers x rows)
lower-In x rows r i h = in_filter (λ s. int_lt (coef_at x s) (pos 0)) r rows i (grind (arith, ints))

pub upper-In : (x : ℕ) (rows : List Row) (r : Row) → In r rows → pos 0 <ℤ coef_at x r → In r (uppers x rows)
upper-In x rows r i h = in_filter (λ s. int_lt (pos 0) (coef_at x s)) r rows i (grind (arith, ints))

-- a pair that passes is one of the pairs
pub pair_passes : (x : ℕ) (rows : List Row) (lower upper : Row) → In lower rows → In upper rows → coef_at x lower <ℤ pos 0 → pos 0 <ℤ coef_at x upper →
    SomePasses (pair_numbers x lower upper) → SomePasses (formed x rows)
unfolding formed
pair_passes x rows lower upper i j l u (k, z, lt, at, passes) =
    let here = in_item (pair_numbers x lower upper) k z lt (sym at) in
    let row = in_flat_map (pair_numbers x lower) upper z (uppers x rows) (upper-In x rows upper j u) here in
    any_in PassesBits (formed x rows) z
    (in_flat_map (λ s. flat_map (pair_numbers x s) (uppers x rows)) lower z (lowers x rows) (lower-In x rows lower i l) row) passes
