-- The numbers of a log are in lowest terms and in range.
use Rattle.std.proofs.Common.{◌≡◌, ℕ, zero, suc, ◌+◌, ◌*◌, ◌%◌, ◌^◌, ◌<◌, Bool, true, false, ◌&&◌, if◌then◌else◌, List, [], ◌∷◌, Option, Some, None, Result, Ok, Err, refl, sym, ◌∙◌, ap, subst, arith, ℤ, pos, ◌*ℤ◌, unsigned_abs}
use Rattle.std.specs.Prelude.{IfSome, IfOk, nat_lt, nat_le, ◌==◌}
use Rattle.std.specs.Int.{◌∣◌}
use Rattle.std.proofs.Math.Nat.{lt_of_mul-lt-mul_left, dvd_of_mul-dvd-mul_left}
use Rattle.std.proofs.lemmas.Bool.{eqb-true, ltb-true}
use Rattle.std.proofs.lemmas.Int.{ints, unsigned_abs-mul}
use Rattle.std.proofs.lemmas.Nat.Gcd.{dvd_of_mod-eq-zero}
use Rattle.poly_specs.proofs.GcdLemmas.{gcd-positive, gcd-swap, dvd-coprime}
use Rattle.poly_specs.proofs.LowestLemmas.{shared, lowest-num, lowest-den, lowest-IsFraction, lowest-coprime, lowest-stays}
use Rattle.poly_specs.specs.Fractions.{Fraction, IsFraction}
use Rattle.poly_specs.specs.Arithmetic.{lowest}
use Rattle.number_specs.specs.declared.NumFault.{NumFault}
use Rattle.number_specs.specs.declared.NumFault.TheVariants.{Range}
use Rattle.number_specs.specs.LogNumbers.{Digits, no_digits, mantissa_from, Exponent, exponent_of, Decimal, moved, with_exponent, unsigned_of, decimal_of, is_in_range, signed, value_of, number_of, read_number, IsLogNumber}

-- ---- what is written has a positive bottom

pub power-positive : (n : ℕ) → 0 < 10 ^ n
power-positive zero = omega arith
power-positive (suc n) = let h = power-positive n in omega (arith, h)

either_bottom : (b : Bool) (x y : Decimal) → 0 < x.bottom → 0 < y.bottom → (z : Decimal) → z ≡ (if b then x else y) → 0 < z.bottom
either_bottom true x y h k z e = subst (λ (d : Decimal). 0 < d.bottom) (sym e) h
either_bottom false x y h k z e = subst (λ (d : Decimal). 0 < d.bottom) (sym e) k

pub moved_bottom : (negative : Bool) (d : Digits) (e : Exponent) → 0 < (moved negative d e).bottom
moved_bottom negative d e =
    either_bottom e.is_negative
    (record { is_negative = negative; top = d.value; bottom = 10 ^ (d.after_point + e.size) })
    (record { is_negative = negative; top = d.value * 10 ^ e.size; bottom = 10 ^ d.after_point })
    (power-positive (d.after_point + e.size)) (power-positive d.after_point) (moved negative d e) refl

some_bottom : (b : Bool) (d : Decimal) → 0 < d.bottom → IfSome (if b then Some d else None) (λ d. 0 < d.bottom)
some_bottom true d h = h
some_bottom false d h = tt

exponent_bottom : (negative : Bool) (d : Digits) (e : Option Exponent) → IfSome (with_exponent negative d e) (λ d. 0 < d.bottom)
exponent_bottom negative d None = tt
exponent_bottom negative d (Some e) = some_bottom (nat_le 1 d.count) (moved negative d e) (moved_bottom negative d e)

unsigned_bottom : (negative : Bool) (bytes : List ℕ) → IfSome (unsigned_of negative bytes) (λ d. 0 < d.bottom)
unsigned_bottom negative bytes = exponent_bottom negative (mantissa_from no_digits bytes).digits (exponent_of (mantissa_from no_digits bytes).rest)

one_of : (b : Bool) (x y : Option Decimal) → IfSome x (λ d. 0 < d.bottom) → IfSome y (λ d. 0 < d.bottom) → IfSome (if b then x else y) (λ d. 0 < d.bottom)
one_of true x y h k = h
one_of false x y h k = k

decimal_bottom : (text : List ℕ) → IfSome (decimal_of text) (λ d. 0 < d.bottom)
decimal_bottom [] = tt
decimal_bottom (b ∷ bytes) =
    one_of (b == 43) (unsigned_of false bytes) (if b == 45 then unsigned_of true bytes else unsigned_of false (b ∷ bytes)) (unsigned_bottom false bytes)
    (one_of (b == 45) (unsigned_of true bytes) (unsigned_of false (b ∷ bytes)) (unsigned_bottom true bytes) (unsigned_bottom false (b ∷ bytes)))

-- ---- its value

pub signed_size : (negative : Bool) (n : ℕ) → unsigned_abs (signed negative n) ≡ n
signed_size true zero = refl
signed_size true (suc n) = refl
signed_size false n = refl

pub size_of : (g : ℕ) (t z : ℤ) → pos g *ℤ t ≡ z → g * unsigned_abs t ≡ unsigned_abs z
size_of g t z e = sym (unsigned_abs-mul (pos g) t) ∙ ap unsigned_abs e

pub turned : (m g d : ℕ) → m * (g * d) ≡ g * (m * d)
turned m g d = omega arith

scaled_less : (g n d m top bottom : ℕ) → g * n ≡ top → g * d ≡ bottom → top < m * bottom → g * n < g * (m * d)
scaled_less g n d m top bottom e f h = subst (λ z. z < g * (m * d)) (sym e) (subst (λ z. top < z) (ap (λ z. m * z) (sym f) ∙ turned m g d) h)

scaled_divides : (g n d p top bottom : ℕ) → g * n ≡ top → g * d ≡ bottom → bottom ∣ top * p → g * d ∣ g * (n * p)
scaled_divides g n d p top bottom e f h =
    subst (λ z. z ∣ g * (n * p)) (sym f) (subst (λ z. bottom ∣ z) (ap (λ z. z * p) (sym e) ∙ assoc g n p) h)
  where
    assoc : (g n p : ℕ) → (g * n) * p ≡ g * (n * p)
    assoc g n p = omega arith

value_is : (d : Decimal) → 0 < d.bottom → d.top < 10 ^ 15 * d.bottom → d.bottom ∣ d.top * 10 ^ 18 → IsLogNumber (value_of d)
value_is d h less divides =
    let x : Fraction = record { num = signed d.is_negative d.top; den = pos d.bottom } in
    let is : IsFraction x = omega (arith, ints, h) in
    let g = shared x in
    let some : 0 < g = gcd-positive (unsigned_abs x.num) (unsigned_abs x.den) h in
    let num = size_of g (lowest x).num x.num (lowest-num x) ∙ signed_size d.is_negative d.top in
    let den : g * unsigned_abs (lowest x).den ≡ d.bottom = size_of g (lowest x).den x.den (lowest-den x) in
    let coprime = gcd-swap (unsigned_abs (lowest x).den) (unsigned_abs (lowest x).num) ∙ lowest-coprime x is in record {
      lowest_terms = record { positive = lowest-IsFraction x is; lowest_terms = lowest-stays x is };
      small = lt_of_mul-lt-mul_left g (scaled_less g (unsigned_abs (lowest x).num) (unsigned_abs (lowest x).den) (10 ^ 15) d.top d.bottom num den less);
      few_decimals = dvd-coprime (unsigned_abs (lowest x).den) (unsigned_abs (lowest x).num) (10 ^ 18) coprime
          (dvd_of_mul-dvd-mul_left (unsigned_abs (lowest x).den) some
          (scaled_divides g (unsigned_abs (lowest x).num) (unsigned_abs (lowest x).den) (10 ^ 18) d.top d.bottom num den divides))
          (power-positive 18);
    }

and_left : (a b : Bool) → a && b ≡ true → a ≡ true
and_left true b e = refl
and_left false b e = absurd (let f : ⊥ = cc in f)

and_right : (a b : Bool) → a && b ≡ true → b ≡ true
and_right true b e = e
and_right false b e = absurd (let f : ⊥ = cc in f)

ranged : (d : Decimal) (b : Bool) → 0 < d.bottom → is_in_range d ≡ b → IfOk (if b then Ok (value_of d) else Err Range) IsLogNumber
ranged d false h e = tt
ranged d true h e = value_is d h
    (ltb-true d.top (10 ^ 15 * d.bottom) (and_left (nat_lt d.top (10 ^ 15 * d.bottom)) ((d.top * 10 ^ 18) % d.bottom == 0) e))
    (dvd_of_mod-eq-zero d.bottom (eqb-true ((d.top * 10 ^ 18) % d.bottom) 0 (and_right (nat_lt d.top (10 ^ 15 * d.bottom)) ((d.top * 10 ^ 18) % d.bottom == 0) e)))

number_is : (d : Option Decimal) → IfSome d (λ d. 0 < d.bottom) → IfOk (number_of d) IsLogNumber
number_is None h = tt
number_is (Some d) h = ranged d (is_in_range d) h refl

-- a number that is read is one that a log may hold
pub read_is : (text : List ℕ) → IfOk (read_number text) IsLogNumber
read_is text = number_is (decimal_of text) (decimal_bottom text)

ok_is : (r : Result Fraction NumFault) (v : Fraction) → r ≡ Ok v → IfOk r IsLogNumber → IsLogNumber v
ok_is r v e h = subst (λ s. IfOk s IsLogNumber) e h

pub numbers_are : (text : List ℕ) (v : Fraction) → read_number text ≡ Ok v → IsLogNumber v
numbers_are text v e = ok_is (read_number text) v e (read_is text)
