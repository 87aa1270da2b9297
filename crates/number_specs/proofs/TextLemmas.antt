-- The texts of fractions: whole numbers are read back, and texts tell fractions apart.
use Rattle.std.proofs.Common.{◌≡◌, ℕ, suc, ◌+◌, ◌-◌, ◌*◌, ◌%◌, ◌^◌, ◌<◌, ◌≤◌, Bool, true, false, ◌&&◌, ◌||◌, if◌then◌else◌, List, [], ◌∷◌, ◌++◌, length, drop, Some, None, Ok, Err, refl, sym, ◌∙◌, ap, ap₂, arith, ℤ, pos, negsuc, ◌<ℤ◌, unsigned_abs, append-nil}
use Rattle.std.specs.Prelude.{decimal, ◌==◌}
use Rattle.std.specs.Fmt.{signed_decimal}
use Rattle.std.specs.Char.{digit_value}
use Rattle.std.specs.Str.Parse.{AllDigits, digits_value, digits_value_after}
use Rattle.std.proofs.lemmas.Bool.{le-leb, lt-ltb, eq-eqb, ne_eqb, eqb-true}
use Rattle.std.proofs.lemmas.Fmt.{decimal_is_IsNumeral_wide}
use Rattle.std.proofs.lemmas.Int.{ints}
use Rattle.std.proofs.lemmas.Str.Parse.{digit_from_value}
use Rattle.poly_specs.proofs.GcdLemmas.{gcd-mod, gcd-zero}
use Rattle.poly_specs.proofs.LowestLemmas.{lowest-IsFraction, lowest-coprime, lowest-same, coprime-unique}
use Rattle.poly_specs.specs.Arithmetic.{lowest, IsKept}
use Rattle.poly_specs.specs.Elimination.{gcd}
use Rattle.poly_specs.specs.Fractions.{Fraction, IsFraction}
use Rattle.number_specs.proofs.NumeralLemmas.{digit_is, digit_worth, numeral-decimal}
use Rattle.number_specs.specs.Digits.{Numeral, numeral_from, numeral_of}
use Rattle.number_specs.specs.FractionTexts.{denominator_text, fraction_text}
use Rattle.number_specs.specs.LogNumbers.{Digits, no_digits, with_digit, mantissa_from, exponent_of, Decimal, with_exponent, unsigned_of, decimal_of, is_in_range, signed, value_of, number_of, read_number}
use Rattle.number_specs.specs.declared.NumFault.TheVariants.{Range}

-- ---- a whole number in a log

-- digits without a point
abbrev pub whole_digits : ℕ → ℕ → Digits
whole_digits v c = record { value = v; count = c; has_point = false; after_point = 0 }

pub mantissa-append : (ds : List ℕ) (v c : ℕ) (rest : List ℕ) → AllDigits 10 ds →
    mantissa_from (whole_digits v c) (ds ++ rest) ≡ mantissa_from (whole_digits (digits_value_after 10 v ds) (c + length ds)) rest
mantissa-append [] v c rest h = ap (λ k. mantissa_from (whole_digits v k) rest) (omega arith)
mantissa-append (b ∷ ds) v c rest h =
    let worth : v * 10 + (b - 48) ≡ v * 10 + digit_value b = ap (λ d. v * 10 + d) (digit_worth b h.0) in
    let more : c + 1 + length ds ≡ c + length (b ∷ ds) = omega arith in
    let d = whole_digits v c in
    ap (λ t. if t || (b == 46) && true then mantissa_from (if t then with_digit d b else record d { has_point = true }) (ds ++ rest) else record { digits = d; rest = b ∷ (ds ++ rest) })
    (digit_is b h.0)
    ∙ mantissa-append ds (v * 10 + (b - 48)) (c + 1) rest h.1
    ∙ ap₂ (λ w k. mantissa_from (whole_digits (digits_value_after 10 w ds) k) rest) worth more

mantissa-decimal : (n : ℕ) → n < 10 ^ 64 → mantissa_from no_digits (decimal n) ≡ record { digits = whole_digits n (length (decimal n)); rest = [] }
mantissa-decimal n h =
    let is = decimal_is_IsNumeral_wide n h in
    ap (mantissa_from no_digits) (sym (append-nil (decimal n)))
    ∙ mantissa-append (decimal n) 0 0 [] is.0.1 ∙ ap₂ (λ v k. record { digits = whole_digits v k; rest = [] }) is.1 (omega arith)

-- a number over 1
abbrev whole : Bool → ℕ → Decimal
whole negative n = record { is_negative = negative; top = n * 1; bottom = 1 }

unsigned-decimal : (negative : Bool) (n : ℕ) → n < 10 ^ 64 → unsigned_of negative (decimal n) ≡ Some (whole negative n)
unsigned-decimal negative n h =
    let some : 1 ≤ length (decimal n) = omega (arith, (decimal_is_IsNumeral_wide n h).0.0) in
    ap (λ m. with_exponent negative m.digits (exponent_of m.rest)) (mantissa-decimal n h)
    ∙ ap (λ t. if t then Some (whole negative n) else None) (le-leb 1 (length (decimal n)) some)

-- digits have no sign before them
digits_first : (ds : List ℕ) → 0 < length ds → AllDigits 10 ds → decimal_of ds ≡ unsigned_of false ds
digits_first [] some h = absurd (omega (arith, some))
digits_first (b ∷ ds) some h =
    let k = digit_from_value b h.0 in
    ap (λ t. if t then unsigned_of false ds else (if b == 45 then unsigned_of true ds else unsigned_of false (b ∷ ds))) (ne_eqb b 43 (λ e. omega (arith, k.0, e)))
    ∙ ap (λ t. if t then unsigned_of true ds else unsigned_of false (b ∷ ds)) (ne_eqb b 45 (λ e. omega (arith, k.0, e)))

shared-one : (a : ℕ) → gcd a 1 ≡ 1
shared-one a = sym (gcd-mod a 1) ∙ gcd-zero 1 (a % 1) (omega arith)

pub lowest-whole : (n : ℤ) → lowest (record { num = n; den = pos 1 }) ≡ record { num = n; den = pos 1 }
lowest-whole n =
    let x : Fraction = record { num = n; den = pos 1 } in
    let is : IsFraction x = omega (arith, ints) in
    coprime-unique (lowest x) x (lowest-IsFraction x is) is (lowest-coprime x is) (shared-one (unsigned_abs n)) (lowest-same x)

whole_in_range : (negative : Bool) (n : ℕ) → n < 10 ^ 15 → is_in_range (whole negative n) ≡ true
whole_in_range negative n h = λ i. lt-ltb (n * 1) (10 ^ 15) (omega (arith, h)) i && eq-eqb ((n * 1 * 10 ^ 18) % 1) 0 (omega arith) i

whole_number : (negative : Bool) (n : ℕ) → n < 10 ^ 15 → number_of (Some (whole negative n)) ≡ Ok (record { num = signed negative n; den = pos 1 })
whole_number negative n h =
    let one : n * 1 ≡ n = omega arith in
    ap (λ t. if t then Ok (value_of (whole negative n)) else Err Range) (whole_in_range negative n h)
    ∙ ap (λ k. Ok (lowest (record { num = signed negative k; den = pos 1 }))) one ∙ ap Ok (lowest-whole (signed negative n))

pub whole_back : (n : ℤ) → unsigned_abs n < 10 ^ 15 → read_number (fraction_text (record { num = n; den = pos 1 })) ≡ Ok (record { num = n; den = pos 1 })
whole_back (pos m) h =
    let is = decimal_is_IsNumeral_wide m (omega (arith, h)) in
    ap read_number (append-nil (decimal m)) ∙ ap number_of (digits_first (decimal m) is.0.0 is.0.1 ∙ unsigned-decimal false m (omega (arith, h)))
    ∙ whole_number false m h
whole_back (negsuc m) h =
    ap (λ ds. read_number (45 ∷ ds)) (append-nil (decimal (suc m))) ∙ ap number_of (unsigned-decimal true (suc m) (omega (arith, h)))
    ∙ whole_number true (suc m) h

-- ---- two texts

-- what follows the numerator
abbrev tail_text : Bool → ℕ → List ℕ
tail_text b d = if b then [] else 47 ∷ decimal d

tail_stops : (b : Bool) (d v c : ℕ) → numeral_from v c (tail_text b d) ≡ record { value = v; count = c; rest = tail_text b d }
tail_stops true d v c = refl
tail_stops false d v c = refl

decimal_tells : (m n : ℕ) → m < 10 ^ 64 → n < 10 ^ 64 → decimal m ≡ decimal n → m ≡ n
decimal_tells m n p q e = sym (decimal_is_IsNumeral_wide m p).1 ∙ ap (digits_value 10) e ∙ (decimal_is_IsNumeral_wide n q).1

tails_tell : (b c : Bool) (d e : ℕ) → d == 1 ≡ b → e == 1 ≡ c → d < 10 ^ 64 → e < 10 ^ 64 → tail_text b d ≡ tail_text c e → d ≡ e
tails_tell true true d e p q hd he same = eqb-true d 1 p ∙ sym (eqb-true e 1 q)
tails_tell true false d e p q hd he same = absurd (let f : ⊥ = cc in f)
tails_tell false true d e p q hd he same = absurd (let f : ⊥ = cc in f)
tails_tell false false d e p q hd he same = decimal_tells d e hd he (ap (drop 1) same)

read_front : (m d : ℕ) → m < 10 ^ 64 → numeral_of (decimal m ++ denominator_text d) ≡ record { value = m; count = length (decimal m); rest = denominator_text d }
read_front m d h = numeral-decimal m (denominator_text d) h ∙ tail_stops (d == 1) d m (length (decimal m))

fronts_tell : (m n d e : ℕ) → m < 10 ^ 64 → n < 10 ^ 64 → d < 10 ^ 64 → e < 10 ^ 64 →
    decimal m ++ denominator_text d ≡ decimal n ++ denominator_text e → (m ≡ n) × (d ≡ e)
fronts_tell m n d e hm hn hd he same =
    let read = sym (read_front m d hm) ∙ ap numeral_of same ∙ read_front n e hn in
    (ap (λ (r : Numeral). r.value) read, tails_tell (d == 1) (e == 1) d e refl refl hd he (ap (λ (r : Numeral). r.rest) read))

minus_first : (ds rest more : List ℕ) → 0 < length ds → AllDigits 10 ds → ds ++ rest ≡ 45 ∷ more → ⊥
minus_first [] rest more some h e = absurd (omega (arith, some))
minus_first (b ∷ ds) rest more some h e = let k = digit_from_value b h.0 in let is : b ≡ 45 = cc in omega (arith, k.0, is)

no_minus : (m : ℕ) (rest more : List ℕ) → m < 10 ^ 64 → decimal m ++ rest ≡ 45 ∷ more → ⊥
no_minus m rest more h e = let is = decimal_is_IsNumeral_wide m h in minus_first (decimal m) rest more is.0.0 is.0.1 e

signed_fronts_tell : (m n : ℤ) (d e : ℕ) → unsigned_abs m < 10 ^ 64 → unsigned_abs n < 10 ^ 64 → d < 10 ^ 64 → e < 10 ^ 64 →
    signed_decimal m ++ denominator_text d ≡ signed_decimal n ++ denominator_text e → (m ≡ n) × (d ≡ e)
signed_fronts_tell (pos m) (pos n) d e hm hn hd he same = let k = fronts_tell m n d e hm hn hd he same in (ap pos k.0, k.1)
signed_fronts_tell (pos m) (negsuc n) d e hm hn hd he same = absurd (no_minus m _ _ hm same)
signed_fronts_tell (negsuc m) (pos n) d e hm hn hd he same = absurd (no_minus n _ _ hn (sym same))
signed_fronts_tell (negsuc m) (negsuc n) d e hm hn hd he same =
    let k = fronts_tell (suc m) (suc n) d e hm hn hd he (ap (drop 1) same) in (ap negsuc (omega (arith, k.0)), k.1)

positive_same : (d e : ℤ) → pos 0 <ℤ d → pos 0 <ℤ e → unsigned_abs d ≡ unsigned_abs e → d ≡ e
positive_same (pos d) (pos e) hd he same = ap pos same
positive_same (pos d) (negsuc e) hd he same = absurd (omega (arith, ints, he))
positive_same (negsuc d) e hd he same = absurd (omega (arith, ints, hd))

pub texts_tell : (x y : Fraction) → IsKept x → IsKept y → fraction_text x ≡ fraction_text y → x ≡ y
texts_tell x y hx hy same =
    let k = signed_fronts_tell x.num y.num (unsigned_abs x.den) (unsigned_abs y.den)
    (omega (arith, hx.num_fits)) (omega (arith, hy.num_fits)) (omega (arith, hx.den_fits)) (omega (arith, hy.den_fits)) same in
    ap₂ (λ (n d : ℤ). record { num = n; den = d }) k.0 (positive_same x.den y.den hx.positive hy.positive k.1)
