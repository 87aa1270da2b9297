-- Least common denominators.
use Rattle.std.proofs.Common.{◌≡◌, inl, inr, ◌^◌, ℕ, zero, suc, ◌+◌, ◌*◌, ◌<◌, ◌≤◌, get_or, List, [], ◌∷◌, ◌++◌, map, length, refl, sym, ◌∙◌, ap, subst, arith, ℤ, pos, negsuc, ◌*ℤ◌, ◌<ℤ◌, unsigned_abs}
use Rattle.std.specs.Prelude.{int_div, All}
use Rattle.std.specs.Int.{◌∣◌}
use Rattle.std.proofs.Math.Nat.{le_of_dvd}
use Rattle.std.proofs.lemmas.Int.{ints, unsigned_abs-mul}
use Rattle.frac128.proofs.CommonLemmas.{den_of, lcm-right, common_positive, common_push}
use Rattle.poly_specs.proofs.CombinationLemmas.{exact}
use Rattle.poly_specs.proofs.ColumnLemmas.{abs_is}
use Rattle.poly_specs.proofs.IntLemmas.{products}
use Rattle.poly_specs.proofs.LowestLemmas.{size-positive, lowest-IsFraction, lowest-same}
use Rattle.poly_specs.proofs.FractionLemmas.{same-trans}
use Rattle.std.proofs.lemmas.List.Elements.{recursion_from_All, All-push}
use Rattle.poly_specs.specs.Arithmetic.{lowest}
use Rattle.fm_eliminate.proofs.CountLemmas.{any_in}
use Rattle.poly_specs.proofs.EliminationLemmas.{in_map}
use Rattle.poly_specs.specs.Bits.{PassesBits, SomePasses}
use Rattle.poly_specs.specs.Lists.{In}
use Rattle.poly_specs.specs.Denominators.{common_den, common_numbers, num_over}
use Rattle.poly_specs.specs.Pickings.{lowest_numbers}
use Rattle.poly_specs.specs.Fractions.{Fraction, IsFraction, SameFraction}

-- each fraction over the common denominator is the same fraction
pub over_common : (x : Fraction) (d : ℕ) → IsFraction x → 0 < d → den_of x ∣ d → SameFraction (record { num = num_over d x; den = pos d }) x
over_common x d hx hd h =
    let y : Fraction = lowest x in
    let hy : IsFraction y = lowest-IsFraction x hx in
    let whole : pos (den_of x) *ℤ int_div (pos d) (pos (den_of x)) ≡ pos d = exact (den_of x) (pos d) h in
    let is : pos (den_of x) ≡ y.den = abs_is y.den hy in
    let at : y.den *ℤ int_div (pos d) y.den ≡ pos d = subst (λ z. z *ℤ int_div (pos d) z ≡ pos d) is whole in
    same-trans (record { num = num_over d x; den = pos d }) y x (omega (arith, ints)) hy hx (moved y.num y.den (int_div (pos d) y.den) at) (lowest-same x)
  where
    moved : (n m k : ℤ) → m *ℤ k ≡ pos d → (n *ℤ k) *ℤ m ≡ n *ℤ pos d
    moved n m k e = let f : (n *ℤ k) *ℤ m ≡ n *ℤ (m *ℤ k) = omega (arith, products) in f ∙ ap (λ z. n *ℤ z) e

pub numerator_passes : (f : Fraction → ℤ) (xs : List Fraction) (x : Fraction) → In x xs → PassesBits (f x) → SomePasses (map f xs)
numerator_passes f xs x h p = any_in PassesBits (map f xs) (f x) (in_map f x xs h) p

pub passes_after : (n : ℤ) (ns : List ℤ) → SomePasses ns → SomePasses (n ∷ ns)
passes_after n ns (k, z, h, at, p) = (suc k, z, omega arith, at, p)

-- ---- one fraction more

-- a number that divides one that does not pass does not either
passes_of_divisor : (m n : ℕ) → m ∣ n → 0 < n → PassesBits (pos m) → PassesBits (pos n)
passes_of_divisor m n h hn p = let le = le_of_dvd hn h in omega (arith, le, p)

in_last : (xs : List Fraction) (x : Fraction) → In x (xs ++ x ∷ [])
in_last [] x = inl refl
in_last (y ∷ xs) x = inr (in_last xs x)

-- a multiple of a number that passes does too
multiple_passes : (z k : ℤ) → pos 0 <ℤ k → PassesBits z → PassesBits (z *ℤ k)
multiple_passes z k hk p = subst (λ m. 2 ^ 127 ≤ m) (sym (unsigned_abs-mul z k)) (larger (unsigned_abs z) (unsigned_abs k) (size-positive k hk) p)
  where
    larger : (m n : ℕ) → 0 < n → 2 ^ 127 ≤ m → 2 ^ 127 ≤ m * n
    larger m zero h p = absurd (omega arith)
    larger m (suc n) h p = let e : m * suc n ≡ m * n + m = omega arith in omega (arith, e, p)

quotient_positive : (m k n : ℤ) → pos 0 <ℤ m → pos 0 <ℤ n → m *ℤ k ≡ n → pos 0 <ℤ k
quotient_positive (pos m) (pos zero) n hm hn e = absurd (let f : pos m *ℤ pos 0 ≡ pos 0 = omega (arith, ints) in omega (arith, ints, e, f, hn))
quotient_positive (pos m) (pos (suc k)) n hm hn e = omega (arith, ints)
quotient_positive (pos zero) (negsuc k) n hm hn e = absurd (omega (arith, ints, hm))
quotient_positive (pos (suc m)) (negsuc k) n hm hn e = absurd (omega (arith, ints, e, hn))
quotient_positive (negsuc m) k n hm hn e = absurd (omega (arith, ints, hm))

-- where a fraction passes in lowest terms, it does over a denominator that serves it
pub pushed_passes : (xs : List Fraction) (x : Fraction) → All IsFraction xs → IsFraction x → SomePasses (lowest_numbers x) → SomePasses (common_numbers (xs ++ x ∷ []))
pushed_passes xs x hxs hx (k, z, h, at, passes) = go k h at
  where
    more : List Fraction
    more = xs ++ x ∷ []

    d : ℕ
    d = common_den more

    some : 0 < d
    some = common_positive more (recursion_from_All IsFraction more (All-push IsFraction xs x hxs hx))

    divides : den_of x ∣ d
    divides = subst (λ n. den_of x ∣ n) (sym (common_push xs x)) (lcm-right (common_den xs) (den_of x))

    is : pos (den_of x) ≡ (lowest x).den
    is = abs_is (lowest x).den (lowest-IsFraction x hx)

    share : ℤ
    share = int_div (pos d) (lowest x).den

    whole : (lowest x).den *ℤ share ≡ pos d
    whole = subst (λ y. y *ℤ int_div (pos d) y ≡ pos d) is (exact (den_of x) (pos d) divides)

    share_positive : pos 0 <ℤ share
    share_positive = quotient_positive (lowest x).den share (pos d) (lowest-IsFraction x hx) (omega (arith, ints, some)) whole

    go : (k : ℕ) → k < length (lowest_numbers x) → get_or (lowest_numbers x) k z ≡ z → SomePasses (common_numbers more)
    go zero h at =
        passes_after (pos d) (map (num_over d) more) (numerator_passes (num_over d) more x (in_last xs x) (multiple_passes (lowest x).num share share_positive (subst PassesBits (sym at) passes)))
    go (suc zero) h at = (
      0,
      pos d,
      omega arith,
      refl,
      passes_of_divisor (den_of x) d divides some (subst PassesBits (sym at ∙ sym is) passes),
    )
    go (suc (suc k)) h at = absurd (omega (arith, h))
