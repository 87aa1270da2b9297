-- The rows and the sums of a sample, variable by variable.
use Rattle.std.proofs.Common.{◌≡◌, ℕ, zero, suc, ◌+◌, ◌<◌, ◌^◌, Bool, true, false, List, [], ◌∷◌, ◌++◌, append_assoc, set, refl, sym, ◌∙◌, ap, arith, ℤ}
use Rattle.std.specs.Prelude.{All, filter}
use Rattle.std.specs.List.{AllByRecursion, flat_map}
use Rattle.std.proofs.lemmas.Grind.{flat_map-append}
use Rattle.std.proofs.lemmas.List.{append-nil}
use Rattle.std.proofs.lemmas.List.Elements.{All-from_recursion}
use Rattle.poly_specs.proofs.InclusionLemmas.{in_flat_map}
use Rattle.poly_specs.proofs.LowestLemmas.{least_sum-IsFraction, lowest-least_sum}
use Rattle.sample_succ.proofs.StageFacts.{passes_more}
use Rattle.run_specs.proofs.SampleLemmas.{in_below}
use Rattle.run_specs.proofs.ScaledRows.{at_most-lowest, at_least-lowest}
use Rattle.stage_rows.proofs.RespellingLemmas.{of_zeros}
use Rattle.poly_specs.specs.Arithmetic.{lowest, least_sum}
use Rattle.poly_specs.specs.Bits.{FitsBits, SomePasses}
use Rattle.poly_specs.specs.Fractions.{Fraction, IsFraction, sum_of}
use Rattle.run_specs.specs.Stages.{zeros, at_most, at_least, below}

-- ---- a row of one column

pub only_fits : (n x : ℕ) (z : ℤ) → FitsBits z → All FitsBits (set (zeros n) x z)
only_fits n x z h = All-from_recursion FitsBits (set (zeros n) x z) (go n x)
  where
    go : (n x : ℕ) → AllByRecursion FitsBits (set (zeros n) x z)
    go zero x = tt
    go (suc n) zero = (h, of_zeros (λ k. k < 2 ^ 127) n (omega arith))
    go (suc n) (suc x) = (omega arith, go n x)

module _ (n x : ℕ) (v w : Fraction) (hx : x < n) (hv : IsFraction v) (hw : IsFraction w) where
  pub upper_row : at_most n x (lowest (sum_of v w)) ≡ at_most n x (least_sum v w)
  upper_row = ap (at_most n x) (sym (lowest-least_sum v w hv hw)) ∙ at_most-lowest n x (least_sum v w) hx (least_sum-IsFraction v w hv hw)

  pub lower_row : at_least n x (lowest (sum_of v w)) ≡ at_least n x (least_sum v w)
  lower_row = ap (at_least n x) (sym (lowest-least_sum v w hv hw)) ∙ at_least-lowest n x (least_sum v w) hx (least_sum-IsFraction v w hv hw)

-- ---- one variable more

module _ {A : Type 0} (f : ℕ → List A) where
  pub below_step : (n : ℕ) → flat_map f (below (suc n)) ≡ flat_map f (below n) ++ f n
  below_step n = flat_map-append f (below n) (n ∷ []) ∙ ap (λ xs. flat_map f (below n) ++ xs) (append-nil (f n))

  pub grown : (before old after : List A) (n : ℕ) → before ≡ old ++ flat_map f (below n) → after ≡ before ++ f n → after ≡ old ++ flat_map f (below (n + 1))
  grown before old after n e g =
      let next : n + 1 ≡ suc n = omega arith in
      g ∙ ap (λ xs. xs ++ f n) e ∙ append_assoc old (flat_map f (below n)) (f n) ∙ ap (λ xs. old ++ xs) (sym (below_step n)) ∙ ap (λ k. old ++ flat_map f (below k)) (sym next)

  module _ (p : ℕ → Bool) where
    filter_more : (x : ℕ) (xs ys zs : List ℕ) → filter p xs ≡ filter p ys ++ filter p zs → (b : Bool) → p x ≡ b → filter p (x ∷ xs) ≡ filter p (x ∷ ys) ++ filter p zs
    filter_more x xs ys zs r true e = rw e (ap (λ ws. x ∷ ws) r)
    filter_more x xs ys zs r false e = rw e r

    filter_append : (xs ys : List ℕ) → filter p (xs ++ ys) ≡ filter p xs ++ filter p ys
    filter_append [] ys = refl
    filter_append (x ∷ xs) ys = filter_more x (xs ++ ys) xs ys (filter_append xs ys) (p x) refl

    pub some_step : (n : ℕ) → p n ≡ true → flat_map f (filter p (below (suc n))) ≡ flat_map f (filter p (below n)) ++ f n
    some_step n e =
        let one : filter p (n ∷ []) ≡ n ∷ [] = rw e refl in
        ap (flat_map f) (filter_append (below n) (n ∷ []) ∙ ap (λ xs. filter p (below n) ++ xs) one)
        ∙ flat_map-append f (filter p (below n)) (n ∷ []) ∙ ap (λ xs. flat_map f (filter p (below n)) ++ xs) (append-nil (f n))

    pub none_step : (n : ℕ) → p n ≡ false → flat_map f (filter p (below (suc n))) ≡ flat_map f (filter p (below n))
    none_step n e =
        let none : filter p (n ∷ []) ≡ [] = rw e refl in
        ap (flat_map f) (filter_append (below n) (n ∷ []) ∙ ap (λ xs. filter p (below n) ++ xs) none ∙ append-nil (filter p (below n)))

-- what passes for one variable passes for all
pub some_variable : (f : ℕ → List ℤ) (m j : ℕ) → j < m → SomePasses (f j) → SomePasses (flat_map f (below m))
some_variable f m j h = passes_more (f j) (flat_map f (below m)) (λ z i. in_flat_map f j z (below m) (in_below m j h) i)
