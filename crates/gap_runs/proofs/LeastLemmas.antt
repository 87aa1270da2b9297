-- The least common denominator of numbers over one denominator divides it, so that none of them passes over it.
use Rattle.std.proofs.Common.{◌≡◌, ◌^◌, ℕ, zero, suc, ◌*◌, ◌/◌, ◌<◌, ◌≤◌, List, [], ◌∷◌, map, fold, sym, ◌∙◌, ap, subst, arith, ℤ, pos, ◌<ℤ◌, unsigned_abs}
use Rattle.std.specs.Prelude.{All}
use Rattle.std.specs.Int.{◌∣◌}
use Rattle.std.specs.List.{AllByRecursion}
use Rattle.std.proofs.Math.Nat.{dvd-mul_right, dvd-mul_left, one-dvd, mul-div_cancel', le_of_dvd, mul-dvd-mul_left, eq_of_mul-eq-mul_left, le_of_mul-le-mul_right, mul-le-mul_left}
use Rattle.std.proofs.lemmas.Int.{ints, unsigned_abs-mul}
use Rattle.std.proofs.lemmas.List.Elements.{All-from_recursion, recursion_from_All, All-cons}
use Rattle.frac128.proofs.CommonLemmas.{den_of, each_divides, common_positive}
use Rattle.column_pick.proofs.CommonLemmas.{over_common}
use Rattle.poly_specs.proofs.CombinationLemmas.{gcd-IsGcd}
use Rattle.poly_specs.proofs.GcdLemmas.{gcd-parts, gcd-swap, gcd-positive, dvd-coprime}
use Rattle.poly_specs.proofs.LowestLemmas.{shared, lowest-den, lowest-same, lowest-stays, lowest-IsFraction, size-positive}
use Rattle.poly_specs.proofs.FractionLemmas.{same-trans}
use Rattle.poly_specs.specs.Arithmetic.{lowest}
use Rattle.poly_specs.specs.Bits.{FitsBits, NonePasses}
use Rattle.poly_specs.specs.Denominators.{lcm, common_den, common_nums, common_numbers, num_over}
use Rattle.poly_specs.specs.Elimination.{gcd}
use Rattle.poly_specs.specs.Fractions.{Fraction, IsFraction, SameFraction, fractions}

-- ---- the least common multiple divides each common one

pub lcm_least : (a b n : ℕ) → 0 < b → 0 < n → a ∣ n → b ∣ n → lcm a b ∣ n
lcm_least a b n hb hn da db =
    let g : ℕ = gcd a b in
    let some : 0 < g = gcd-positive a b hb in
    let ea : g * (a / g) ≡ a = mul-div_cancel' g (gcd-IsGcd a b).0 in
    let eb : g * (b / g) ≡ b = mul-div_cancel' g (gcd-IsGcd a b).1 in
    let na : a * (n / a) ≡ n = mul-div_cancel' a da in
    let nb : b * (n / b) ≡ n = mul-div_cancel' b db in
    let parts : gcd (b / g) (a / g) ≡ 1 = gcd-swap (b / g) (a / g) ∙ gcd-parts (a / g) (b / g) g some (ap (λ x. gcd x (b / g * g)) (swapped g (a / g) a ea) ∙ ap (gcd a) (swapped g (b / g) b eb)) in
    let share : a / g * (n / a) ≡ b / g * (n / b) = cancelled g (a / g) (n / a) (b / g) (n / b) some (shared_part g (a / g) a (n / a) n ea na ∙ sym (shared_part g (b / g) b (n / b) n eb nb)) in
    let d : b / g ∣ n / a = dvd-coprime (b / g) (a / g) (n / a) parts (subst (λ x. b / g ∣ x) (sym share) (dvd-mul_right (b / g) (n / b))) (quotient_some a (n / a) n hn na) in
    subst (λ x. a * (b / g) ∣ x) na (mul-dvd-mul_left (b / g) a d)
  where
    swapped : (g s a : ℕ) → g * s ≡ a → s * g ≡ a
    swapped g s a e = omega (arith, e)

    shared_part : (g s a u n : ℕ) → g * s ≡ a → a * u ≡ n → g * (s * u) ≡ n
    shared_part g s a u n e f = let h = ap (λ x. x * u) e in omega (arith, h, f)

    cancelled : (g s u t w : ℕ) → 0 < g → g * (s * u) ≡ g * (t * w) → s * u ≡ t * w
    cancelled g s u t w h e = eq_of_mul-eq-mul_left g h (s * u) (t * w) e

    quotient_some : (a u n : ℕ) → 0 < n → a * u ≡ n → 0 < u
    quotient_some a zero n h e = absurd (omega (arith, h, e))
    quotient_some a (suc u) n h e = omega arith

dens_least : (d n : ℕ) (xs : List Fraction) → 0 < n → d ∣ n → AllByRecursion IsFraction xs → AllByRecursion (λ x. den_of x ∣ n) xs → fold (λ e x. lcm e (den_of x)) d xs ∣ n
dens_least d n [] hn hd h each = hd
dens_least d n (x ∷ xs) hn hd h each =
    dens_least (lcm d (den_of x)) n xs hn (lcm_least d (den_of x) n (size-positive (lowest x).den (lowest-IsFraction x h.0)) hn hd each.0) h.1 each.1

pub common_least : (n : ℕ) (xs : List Fraction) → 0 < n → AllByRecursion IsFraction xs → AllByRecursion (λ x. den_of x ∣ n) xs → common_den xs ∣ n
common_least n xs hn h each = dens_least 1 n xs hn (one-dvd n) h each

-- ---- numbers over one denominator

module _ (d : ℤ) (positive : pos 0 <ℤ d) where
  abbrev at : ℤ → Fraction
  at n = record { num = n; den = d }

  den_divides : (n : ℤ) → den_of (at n) ∣ unsigned_abs d
  den_divides n =
      let e : shared (at n) * den_of (at n) ≡ unsigned_abs d = sym (unsigned_abs-mul (pos (shared (at n))) (lowest (at n)).den) ∙ ap unsigned_abs (lowest-den (at n)) in
      subst (λ x. den_of (at n) ∣ x) e (dvd-mul_left (den_of (at n)) (shared (at n)))

  all_lowest : (ns : List ℤ) → AllByRecursion IsFraction (map lowest (fractions d ns))
  all_lowest [] = tt
  all_lowest (n ∷ ns) = (lowest-IsFraction (at n) positive, all_lowest ns)

  all_divide : (ns : List ℤ) → AllByRecursion (λ x. den_of x ∣ unsigned_abs d) (map lowest (fractions d ns))
  all_divide [] = tt
  all_divide (n ∷ ns) = (subst (λ x. unsigned_abs x.den ∣ unsigned_abs d) (sym (lowest-stays (at n) positive)) (den_divides n), all_divide ns)

  -- over a denominator that divides it, a number is no larger
  no_larger : (n : ℤ) (e : ℕ) → 0 < e → e ∣ unsigned_abs d → den_of (lowest (at n)) ∣ e → FitsBits n → FitsBits (num_over e (lowest (at n)))
  no_larger n e he de dn fits =
      let x : Fraction = lowest (at n) in
      let hx : IsFraction x = lowest-IsFraction (at n) positive in
      let over : Fraction = record { num = num_over e x; den = pos e } in
      let same : SameFraction over (at n) = same-trans over x (at n) (omega (arith, ints, he)) hx positive (over_common x e hx he dn) (lowest-same (at n)) in
      let sizes : unsigned_abs (num_over e x) * unsigned_abs d ≡ unsigned_abs n * e =
      sym (unsigned_abs-mul (num_over e x) d) ∙ ap unsigned_abs same ∙ unsigned_abs-mul n (pos e) in
      let le : e ≤ unsigned_abs d = le_of_dvd (size-positive d positive) de in
      smaller (unsigned_abs (num_over e x)) (unsigned_abs n) (unsigned_abs d) e (size-positive d positive) le sizes fits
    where
      smaller : (a b c e : ℕ) → 0 < c → e ≤ c → a * c ≡ b * e → b < 2 ^ 127 → a < 2 ^ 127
      smaller a b c e h le same small =
          let f : b * e ≤ b * c = mul-le-mul_left b le in
          let g : a * c ≤ b * c = omega (arith, f, same) in
          let k : a ≤ b = le_of_mul-le-mul_right g h in
          omega (arith, k, small)

  nums_fit : (e : ℕ) (ns : List ℤ) → 0 < e → e ∣ unsigned_abs d → AllByRecursion (λ x. den_of x ∣ e) (map lowest (fractions d ns)) → AllByRecursion FitsBits ns →
      AllByRecursion FitsBits (map (num_over e) (map lowest (fractions d ns)))
  nums_fit e [] he de each fits = tt
  nums_fit e (n ∷ ns) he de each fits = (no_larger n e he de each.0 fits.0, nums_fit e ns he de each.1 fits.1)

  -- none of them passes over their least common denominator
  pub common_fits : (ns : List ℤ) → FitsBits d → All FitsBits ns → NonePasses (common_numbers (map lowest (fractions d ns)))
  common_fits ns fits all =
      let xs : List Fraction = map lowest (fractions d ns) in
      let some : 0 < unsigned_abs d = size-positive d positive in
      let divides : common_den xs ∣ unsigned_abs d = common_least (unsigned_abs d) xs some (all_lowest ns) (all_divide ns) in
      let le : common_den xs ≤ unsigned_abs d = le_of_dvd some divides in
      All-cons FitsBits (pos (common_den xs)) (common_nums xs) (smaller (common_den xs) (unsigned_abs d) le fits)
      (All-from_recursion FitsBits (common_nums xs)
      (nums_fit (common_den xs) ns (common_positive xs (all_lowest ns)) divides (each_divides xs) (recursion_from_All FitsBits ns all)))
    where
      smaller : (m n : ℕ) → m ≤ n → n < 2 ^ 127 → m < 2 ^ 127
      smaller m n le h = omega (arith, le, h)
