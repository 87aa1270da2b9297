-- Differences of numbers that a log may hold do not pass.
use Rattle.std.proofs.Common.{◌≡◌, ℕ, zero, suc, ◌*◌, ◌/◌, ◌<◌, ◌≤◌, ◌^◌, sym, ◌∙◌, ap, ap₂, subst, arith, ℤ, pos, unsigned_abs, ◌+ℤ◌, ◌*ℤ◌}
use Rattle.std.proofs.Math.Nat.{mul_comm, mul_assoc, mul-div_cancel', dvd_of_mul-dvd-mul_right, mul-dvd-mul_left, le_of_dvd, mul-le-mul_right}
use Rattle.std.proofs.lemmas.Int.{ints, unsigned_abs-mul}
use Rattle.std.specs.Int.{◌∣◌}
use Rattle.poly_specs.specs.Fractions.{Fraction, IsFraction, opposite}
use Rattle.poly_specs.specs.Elimination.{gcd}
use Rattle.poly_specs.specs.Arithmetic.{left_factor, right_factor, sum_numbers}
use Rattle.poly_specs.specs.Bits.{FitsBits, NonePasses}
use Rattle.poly_specs.proofs.CombinationLemmas.{gcd-IsGcd}
use Rattle.poly_specs.proofs.GcdLemmas.{gcd-positive, gcd-parts, gcd-swap, dvd-coprime}
use Rattle.poly_specs.proofs.LowestLemmas.{size-positive}
use Rattle.number_specs.specs.LogNumbers.{IsLogNumber}
use Rattle.lin_row.proofs.FitLemmas.{none_passes}

-- the least common multiple of two numbers divides what both divide
pub multiple_divides : (a b n : ℕ) → 0 < a → 0 < b → 0 < n → a ∣ n → b ∣ n → a * (b / gcd a b) ∣ n
multiple_divides a b n ha hb hn da db =
    let g = gcd a b in
    let hg : 0 < g = gcd-positive a b hb in
    let u = n / a in
    let eu : a * u ≡ n = mul-div_cancel' a da in
    let ea : g * (a / g) ≡ a = mul-div_cancel' g (gcd-IsGcd a b).0 in
    let eb : g * (b / g) ≡ b = mul-div_cancel' g (gcd-IsGcd a b).1 in
    let fa : (a / g) * g ≡ a = mul_comm (a / g) g ∙ ea in
    let fb : (b / g) * g ≡ b = mul_comm (b / g) g ∙ eb in
    let en : ((a / g) * u) * g ≡ n = mul_assoc (a / g) u g ∙ ap (λ k. (a / g) * k) (mul_comm u g) ∙ sym (mul_assoc (a / g) g u) ∙ ap (λ k. k * u) fa ∙ eu in
    let d1 : (b / g) * g ∣ ((a / g) * u) * g = subst (λ k. k ∣ ((a / g) * u) * g) (sym fb) (subst (λ k. b ∣ k) (sym en) db) in
    let d2 : b / g ∣ (a / g) * u = dvd_of_mul-dvd-mul_right {k = g} (b / g) hg d1 in
    let one : gcd (b / g) (a / g) ≡ 1 = gcd-parts (b / g) (a / g) g hg (ap₂ gcd fb fa ∙ gcd-swap b a) in
    let hu : 0 < u = positive a u (subst (λ k. 0 < k) (sym eu) hn) in
    subst (λ k. a * (b / g) ∣ k) eu (mul-dvd-mul_left (b / g) a (dvd-coprime (b / g) (a / g) u one d2 hu))
  where
    positive : (a u : ℕ) → 0 < a * u → 0 < u
    positive a zero h = omega arith
    positive a (suc u) h = omega arith

-- a product of a numerator, and the common denominator, are small
product_small : (n d f : ℕ) → n < 10 ^ 15 * d → d * f ≤ 10 ^ 18 → n * f ≤ 10 ^ 33
product_small n d f h g =
    let a : n * f ≤ (10 ^ 15 * d) * f = mul-le-mul_right f (let le : n ≤ 10 ^ 15 * d = omega arith in le) in
    let b : (10 ^ 15 * d) * f ≡ 10 ^ 15 * (d * f) = mul_assoc (10 ^ 15) d f in
    omega (arith, a, b, g)

record IsShared (x y : Fraction) : Type 0 where
  left : unsigned_abs x.den * left_factor x y ≤ 10 ^ 18
  right : unsigned_abs y.den * right_factor x y ≤ 10 ^ 18

shared : (x y : Fraction) → IsFraction x → IsFraction y → unsigned_abs x.den ∣ 10 ^ 18 → unsigned_abs y.den ∣ 10 ^ 18 → IsShared x y
shared x y hx hy dx dy =
    let a = unsigned_abs x.den in
    let b = unsigned_abs y.den in
    let ha : 0 < a = size-positive x.den hx in
    let hb : 0 < b = size-positive y.den hy in
    let n : 0 < 10 ^ 18 = omega arith in
    record {
      left = le_of_dvd n (multiple_divides a b (10 ^ 18) ha hb n dx dy);
      right = le_of_dvd n (subst (λ g. b * (a / g) ∣ 10 ^ 18) (gcd-swap b a) (multiple_divides b a (10 ^ 18) hb ha n dy dx));
    }

pub differences_fit : (x y : Fraction) → IsLogNumber x → IsLogNumber y → NonePasses (sum_numbers x (opposite y))
differences_fit x y hx hy =
    let z : Fraction = opposite y in
    let s = shared x z hx.lowest_terms.positive hy.lowest_terms.positive hx.few_decimals hy.few_decimals in
    let p = left_factor x z in
    let q = right_factor x z in
    let flip : unsigned_abs z.num ≡ unsigned_abs y.num = omega (arith, ints) in
    let a : unsigned_abs (x.num *ℤ pos p) ≤ 10 ^ 33 = rw (unsigned_abs-mul x.num (pos p)) (product_small (unsigned_abs x.num) (unsigned_abs x.den) p hx.small s.left) in
    let b : unsigned_abs (z.num *ℤ pos q) ≤ 10 ^ 33 =
    rw (unsigned_abs-mul z.num (pos q), flip) (product_small (unsigned_abs y.num) (unsigned_abs y.den) q hy.small s.right) in
    let d : unsigned_abs (x.den *ℤ pos p) ≤ 10 ^ 18 = rw (unsigned_abs-mul x.den (pos p)) s.left in
    none_passes (sum_numbers x z) (omega (arith, a), (omega (arith, b), (sum_small (x.num *ℤ pos p) (z.num *ℤ pos q) a b, (omega (arith, d), tt))))
  where
    sum_small : (m n : ℤ) → unsigned_abs m ≤ 10 ^ 33 → unsigned_abs n ≤ 10 ^ 33 → FitsBits (m +ℤ n)
    sum_small m n h g = omega (arith, ints, h, g)
