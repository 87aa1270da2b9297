-- Rows built of a row's numbers, their negations and zeros: the same divisors, and no number is larger.
use Rattle.std.proofs.Common.{◌≡◌, ℕ, zero, suc, ◌+◌, ◌≤◌, List, [], ◌∷◌, ◌++◌, length, append_assoc, take, drop, map, refl, sym, ◌∙◌, ap, subst, arith, ℤ, pos, neg_ℤ, unsigned_abs}
use Rattle.std.specs.Int.{◌∣◌}
use Rattle.std.specs.List.{AllByRecursion}
use Rattle.std.proofs.lemmas.Int.{ints}
use Rattle.std.proofs.lemmas.List.Elements.{All-from_recursion, recursion_from_All}
use Rattle.std.proofs.lemmas.Nat.Gcd.{dvd-zero}
use Rattle.stage_rows.proofs.SharedDivisors.{same_divided, same_shared}
use Rattle.poly_specs.specs.Bits.{FitsBits}
use Rattle.poly_specs.specs.KeptRows.{IsKeptRow}
use Rattle.poly_specs.specs.Lists.{number_at}
use Rattle.poly_specs.specs.Rows.{Row, with_coef}
use Rattle.run_specs.specs.Stages.{zeros}

-- ---- what holds of the sizes of numbers

abbrev pub Sizes : (ℕ → Type 0) → List ℤ → Type 0
Sizes P ns = AllByRecursion (λ n. P (unsigned_abs n)) ns

-- what holds of 0 and of the sizes of the first numbers holds of those of the second
abbrev pub Passes : List ℤ → List ℤ → Type 1
Passes cs ns = (P : ℕ → Type 0) → P 0 → Sizes P cs → Sizes P ns

pub respelled : (ns : List ℤ) (r : Row) → length ns ≤ 14 → Passes r.coef ns → Passes ns r.coef → IsKeptRow r → IsKeptRow (with_coef ns r)
respelled ns r few there back kept = record {
  few = few;
  lowest_terms = same_divided r (with_coef ns r)
      (same_shared ns r.coef (λ k. back (λ n. k ∣ n) (dvd-zero k)) (λ k. there (λ n. k ∣ n) (dvd-zero k))) refl kept.lowest_terms;
  coef_fits = All-from_recursion FitsBits ns (there (λ n. FitsBits (pos n)) (omega arith) (recursion_from_All FitsBits r.coef kept.coef_fits));
  cst_fits = kept.cst_fits;
}

module _ (P : ℕ → Type 0) where
  pub both : (xs ys : List ℤ) → Sizes P xs → Sizes P ys → Sizes P (xs ++ ys)
  both [] ys h g = g
  both (x ∷ xs) ys h g = (h.0, both xs ys h.1 g)

  pub left : (xs ys : List ℤ) → Sizes P (xs ++ ys) → Sizes P xs
  left [] ys h = tt
  left (x ∷ xs) ys h = (h.0, left xs ys h.1)

  pub right : (xs ys : List ℤ) → Sizes P (xs ++ ys) → Sizes P ys
  right [] ys h = h
  right (x ∷ xs) ys h = right xs ys h.1

  pub of_zeros : (n : ℕ) → P 0 → Sizes P (zeros n)
  of_zeros zero z = tt
  of_zeros (suc n) z = (z, of_zeros n z)

  pub of_taken : (n : ℕ) (xs : List ℤ) → Sizes P xs → Sizes P (take n xs)
  of_taken zero xs h = tt
  of_taken (suc n) [] h = tt
  of_taken (suc n) (x ∷ xs) h = (h.0, of_taken n xs h.1)

  pub of_dropped : (n : ℕ) (xs : List ℤ) → Sizes P xs → Sizes P (drop n xs)
  of_dropped zero xs h = h
  of_dropped (suc n) [] h = tt
  of_dropped (suc n) (x ∷ xs) h = of_dropped n xs h.1

  pub of_parts : (n : ℕ) (xs : List ℤ) → Sizes P (take n xs) → Sizes P (drop n xs) → Sizes P xs
  of_parts zero xs h g = g
  of_parts (suc n) [] h g = tt
  of_parts (suc n) (x ∷ xs) h g = (h.0, of_parts n xs h.1 g)

  pub of_number : (n : ℕ) (xs : List ℤ) → P 0 → Sizes P xs → P (unsigned_abs (number_at n xs))
  of_number n [] z h = z
  of_number zero (x ∷ xs) z h = h.0
  of_number (suc n) (x ∷ xs) z h = of_number n xs z h.1

  -- the first numbers, and the last one
  pub of_last : (n : ℕ) (xs : List ℤ) → length xs ≡ n + 1 → Sizes P (take n xs) → P (unsigned_abs (number_at n xs)) → Sizes P xs
  of_last n [] e h g = tt
  of_last zero (x ∷ []) e h g = (g, tt)
  of_last zero (x ∷ y ∷ xs) e h g = absurd (omega arith)
  of_last (suc n) (x ∷ xs) e h g = (h.0, of_last n xs (omega arith) h.1 g)

  pub turned : (z : ℤ) → P (unsigned_abs z) → P (unsigned_abs (neg_ℤ z))
  turned z h = subst P (sym (same_size z)) h
    where
      same_size : (z : ℤ) → unsigned_abs (neg_ℤ z) ≡ unsigned_abs z
      same_size z = omega (arith, ints)

  pub of_negated : (xs : List ℤ) → Sizes P xs → Sizes P (map neg_ℤ xs)
  of_negated [] h = tt
  of_negated (x ∷ xs) h = (turned x h.0, of_negated xs h.1)

-- three parts, put together
pub parts : (a b c x y z : List ℤ) → x ≡ a → y ≡ b → z ≡ c → x ++ y ++ z ≡ a ++ (b ++ c)
parts a b c x y z e f g = ap (λ l. l ++ y ++ z) e ∙ ap (λ l. a ++ l ++ z) f ∙ ap (λ l. a ++ b ++ l) g ∙ append_assoc a b c
