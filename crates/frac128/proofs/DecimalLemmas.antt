-- Digits with a point among them: what is kept of them with one byte more.
use Rattle.std.proofs.Common.{◌≡◌, ℕ, ◌+◌, ◌-◌, ◌*◌, ◌%◌, ◌^◌, ◌<◌, ◌≤◌, Bool, true, false, if◌then◌else◌, List, [], ◌∷◌, length, take, drop, get_or, Option, Some, None, Err, refl, sym, ◌∙◌, ap, ap₂, subst, arith, mul-lt-mul_of_pos_right, mul-le-mul_right}
use Rattle.std.specs.Prelude.{MatchOption}
use Rattle.std.specs.Int.{from_bool}
use Rattle.std.proofs.Math.Nat.{mul-le-mul_left}
use Rattle.std.proofs.lemmas.Nat.{pow-add}
use Rattle.number_specs.specs.LogNumbers.{no_digits, Mantissa, mantissa_from, one_if, moved, number_of}
use Rattle.number_specs.specs.declared.NumFault.TheVariants.{Range}
use Rattle.number_specs.specs.LogNumbers as log
use Rattle.frac128.proofs.DigitLemmas.{tail_is}
use Rattle.frac128.proofs.RangeLemmas.{power-positive, powers, number_long}
use Rattle.frac128.specs.Readings.{HasZeros, KeepsStripped, IsDigitsOf, IsMantissaOf, goes_on, with_byte, StepsTo, same_exponent}
use Rattle.frac128.specs.declared.read.Digits.{Digits}
use Rattle.frac128.specs.declared.read.Exponent.{Exponent}

-- ---- one digit more behind zeros

pub long_zeros : (m zeros d : ℕ) → 0 < m → 32 < zeros → 10 ^ 33 ≤ m * 10 ^ (zeros + 1) + d
long_zeros m zeros d some more =
    let most : 10 ^ 33 ≤ 10 ^ (zeros + 1) = powers 33 (zeros + 1) (omega (arith, more)) in
    let times : 1 * 10 ^ (zeros + 1) ≤ m * 10 ^ (zeros + 1) = mul-le-mul_right (10 ^ (zeros + 1)) some in
    omega (arith, most, times)

whole_power : (zeros : ℕ) → zeros ≤ 32 → 10 ^ (32 - zeros) * 10 ^ (zeros + 1) ≡ 10 ^ 33
whole_power zeros le = let e : 32 - zeros + (zeros + 1) ≡ 33 = omega arith in sym (pow-add 10 (32 - zeros) (zeros + 1)) ∙ ap (λ k. 10 ^ k) e

pub long_number : (m zeros d : ℕ) → zeros ≤ 32 → 10 ^ (32 - zeros) ≤ m → 10 ^ 33 ≤ m * 10 ^ (zeros + 1) + d
long_number m zeros d le big =
    let times : 10 ^ (32 - zeros) * 10 ^ (zeros + 1) ≤ m * 10 ^ (zeros + 1) = mul-le-mul_right (10 ^ (zeros + 1)) big in
    omega (arith, whole_power zeros le, times)

pub short_number : (m zeros : ℕ) → zeros ≤ 32 → m < 10 ^ (32 - zeros) → m * 10 ^ (zeros + 1) < 10 ^ 33
short_number m zeros le less =
    subst (λ n. m * 10 ^ (zeros + 1) < n) (whole_power zeros le) (mul-lt-mul_of_pos_right less (power-positive (zeros + 1)))

next_power : (m zeros : ℕ) → m * 10 ^ zeros * 10 ≡ m * 10 ^ (zeros + 1)
next_power m zeros = let e : 10 ^ (zeros + 1) ≡ 10 ^ zeros * 10 = pow-add 10 zeros 1 in assoc m (10 ^ zeros) ∙ ap (λ k. m * k) (sym e)
  where
    assoc : (a b : ℕ) → a * b * 10 ≡ a * (b * 10)
    assoc a b = omega arith

-- the digit 0
pub zero_more : (number m zeros : ℕ) → HasZeros number m zeros → HasZeros (number * 10 + 0) m (zeros + 1)
zero_more number m zeros h = let e = ap (λ n. n * 10) h.same in record { stripped = h.stripped; same = omega (arith, e, next_power m zeros) }

pub keeps_zero : (number : ℕ) (kept : Option ℕ) (count : ℕ) → KeepsStripped number kept count → KeepsStripped (number * 10 + 0) kept (count + 1)
keeps_zero number (Some m) count h = zero_more number m count h
keeps_zero number None count h = (h.0, h.1 + 1, zero_more number h.0 h.1 h.2, h.3)

-- another digit
pub digit_more : (number m zeros d : ℕ) → 0 < d → d < 10 → HasZeros number m zeros → HasZeros (number * 10 + d) (m * 10 ^ (zeros + 1) + d) 0
digit_more number m zeros d some small h =
    let e = ap (λ n. n * 10) h.same in
    let tens : m * 10 ^ zeros * 10 ≡ m * 10 ^ (zeros + 1) = next_power m zeros in
    let last : (m * 10 ^ (zeros + 1) + d) % 10 ≡ d = omega (arith, tens, small) in
    record {
      stripped = λ z. absurd (omega (arith, last, z, some));
      same = omega (arith, e, tens);
    }

-- what a digit that is not 0 makes of the number
pub keeps_digit : (number m zeros d : ℕ) (next : Option ℕ) → 0 < d → d < 10 → HasZeros number m zeros →
    MatchOption next (10 ^ 33 ≤ m * 10 ^ (zeros + 1) + d) (λ k. k ≡ m * 10 ^ (zeros + 1) + d) → KeepsStripped (number * 10 + d) next 0
keeps_digit number m zeros d (Some k) some small h e = subst (λ n. HasZeros (number * 10 + d) n 0) (sym e) (digit_more number m zeros d some small h)
keeps_digit number m zeros d None some small h big = (m * 10 ^ (zeros + 1) + d, 0, digit_more number m zeros d some small h, big)

pub keeps_long : (number d count : ℕ) → 0 < d → d < 10 → KeepsStripped number None count → KeepsStripped (number * 10 + d) None 0
keeps_long number d count some small h =
    let m = h.0 in let more = h.1 in
    let times : m * 1 ≤ m * 10 ^ (more + 1) = larger m (10 ^ (more + 1)) (power-positive (more + 1)) in
    (m * 10 ^ (more + 1) + d, 0, digit_more number m more d some small h.2, omega (arith, times, h.3))
  where
    larger : (m p : ℕ) → 0 < p → m * 1 ≤ m * p
    larger m p h = mul-le-mul_left m h

-- ---- the digits after the point

pub more_after : (p q : Bool) (a b : ℕ) → p ≡ q → a ≡ b → a + from_bool p ≡ b + one_if q
more_after true true a b e f = ap (λ n. n + 1) f
more_after false false a b e f = ap (λ n. n + 0) f
more_after true false a b e f = absurd (let g : ⊥ = cc in g)
more_after false true a b e f = absurd (let g : ⊥ = cc in g)

-- ---- the loop

-- what a loop over digits and a point knows
pub record MantissaSoFar (bytes rest : List ℕ) (digits : Digits) : Type 0 where
  pub read : log.Digits
  pub same : mantissa_from no_digits bytes ≡ mantissa_from read rest
  pub kept : IsDigitsOf read digits
  pub zeros : digits.zeros + length rest ≤ length bytes
  pub after_point : digits.after_point + length rest ≤ length bytes

goes_where : (d : log.Digits) (b : ℕ) (bs : List ℕ) (t : Bool) → goes_on d b ≡ t →
    mantissa_from d (b ∷ bs) ≡ (if t then mantissa_from (with_byte d b) bs else record { digits = d; rest = b ∷ bs })
goes_where d b bs t e = ap (λ t. if t then mantissa_from (with_byte d b) bs else record { digits = d; rest = b ∷ bs }) e

pub mantissa_step : (bytes rest : List ℕ) (digits next : Digits) → 1 ≤ length rest →
    ((d : log.Digits) → IsDigitsOf d digits → StepsTo d (get_or rest 0 0) (Some next)) →
    next.zeros ≤ digits.zeros + 1 → next.after_point ≤ digits.after_point + 1 →
    MantissaSoFar bytes rest digits → MantissaSoFar bytes (take (length rest - 1) (drop 1 rest)) next
mantissa_step bytes [] digits next some step z a h = absurd (omega (arith, some))
mantissa_step bytes (b ∷ bs) digits next some step z a h =
    let s = step h.read h.kept in
    subst (λ r. MantissaSoFar bytes r next) (sym (tail_is b bs)) (record {
      read = with_byte h.read b;
      same = h.same ∙ goes_where h.read b bs true s.0;
      kept = s.1;
      zeros = omega (arith, h.zeros, z);
      after_point = omega (arith, h.after_point, a);
    })

-- where no byte is left, or the next one does not go on
pub mantissa_ends : (bytes rest : List ℕ) (digits : Digits) → length rest < 1 → MantissaSoFar bytes rest digits → IsMantissaOf (mantissa_from no_digits bytes) digits rest
mantissa_ends bytes [] digits none h = subst (λ m. IsMantissaOf m digits []) (sym h.same) (record { kept = h.kept; behind = refl })
mantissa_ends bytes (b ∷ bs) digits none h = absurd (omega (arith, none))

pub mantissa_stops : (bytes rest : List ℕ) (digits : Digits) → 1 ≤ length rest →
    ((d : log.Digits) → IsDigitsOf d digits → StepsTo d (get_or rest 0 0) None) →
    MantissaSoFar bytes rest digits → IsMantissaOf (mantissa_from no_digits bytes) digits rest
mantissa_stops bytes [] digits some step h = absurd (omega (arith, some))
mantissa_stops bytes (b ∷ bs) digits some step h =
    subst (λ m. IsMantissaOf m digits (b ∷ bs)) (sym (h.same ∙ goes_where h.read b bs false (step h.read h.kept))) (record { kept = h.kept; behind = refl })

-- ---- the point moved by the exponent

kept_number : (number : ℕ) (kept : Option ℕ) (count m : ℕ) → KeepsStripped number kept count → kept ≡ Some m → number ≡ m * 10 ^ count
kept_number number (Some k) count m h e = let same : k ≡ m = cc in h.same ∙ ap (λ n. n * 10 ^ count) same
kept_number number None count m h e = absurd (let f : ⊥ = cc in f)

long_number_of : (number : ℕ) (kept : Option ℕ) (count : ℕ) → KeepsStripped number kept count → kept ≡ None → KeepsStripped number None count
long_number_of number kept count h e = subst (λ k. KeepsStripped number k count) e h

joined_powers : (m p q : ℕ) → m * 10 ^ (p + q) ≡ m * 10 ^ p * 10 ^ q
joined_powers m p q = ap (λ k. m * k) (pow-add 10 p q) ∙ assoc m (10 ^ p) (10 ^ q)
  where
    assoc : (a b c : ℕ) → a * (b * c) ≡ a * b * c
    assoc a b c = omega arith

-- to the left
pub moved_left : (negative : Bool) (d : log.Digits) (digits : Digits) (m : ℕ) (e : Exponent) → IsDigitsOf d digits → digits.kept ≡ Some m → e.is_negative ≡ true →
    number_of (Some (record { is_negative = negative; top = m * 10 ^ digits.zeros; bottom = 10 ^ (digits.after_point + e.size) })) ≡ number_of (Some (moved negative d (same_exponent e)))
moved_left negative d digits m e h is left =
    ap₂ (λ t a. number_of (Some (record { is_negative = negative; top = t; bottom = 10 ^ (a + e.size) }))) (sym (kept_number d.value digits.kept digits.zeros m h.number is)) h.after_point
    ∙ ap (λ t. number_of (Some (if t
    then record { is_negative = negative; top = d.value; bottom = 10 ^ (d.after_point + e.size) }
    else record { is_negative = negative; top = d.value * 10 ^ e.size; bottom = 10 ^ d.after_point }))) (sym left)

-- to the right
pub moved_right : (negative : Bool) (d : log.Digits) (digits : Digits) (m : ℕ) (e : Exponent) → IsDigitsOf d digits → digits.kept ≡ Some m → e.is_negative ≡ false →
    number_of (Some (record { is_negative = negative; top = m * 10 ^ (digits.zeros + e.size); bottom = 10 ^ digits.after_point })) ≡ number_of (Some (moved negative d (same_exponent e)))
moved_right negative d digits m e h is right =
    let top : m * 10 ^ (digits.zeros + e.size) ≡ d.value * 10 ^ e.size =
    joined_powers m digits.zeros e.size ∙ ap (λ n. n * 10 ^ e.size) (sym (kept_number d.value digits.kept digits.zeros m h.number is)) in
    ap₂ (λ t a. number_of (Some (record { is_negative = negative; top = t; bottom = 10 ^ a }))) top h.after_point
    ∙ ap (λ t. number_of (Some (if t
    then record { is_negative = negative; top = d.value; bottom = 10 ^ (d.after_point + e.size) }
    else record { is_negative = negative; top = d.value * 10 ^ e.size; bottom = 10 ^ d.after_point }))) (sym right)

-- a number with too many digits, to either side
pub moved_long : (negative : Bool) (d : log.Digits) (digits : Digits) (e : Exponent) → IsDigitsOf d digits → digits.kept ≡ None →
    number_of (Some (moved negative d (same_exponent e))) ≡ Err Range
moved_long negative d digits e h is = by (long_number_of d.value digits.kept digits.zeros h.number is) e.is_negative
  where
    by : KeepsStripped d.value None digits.zeros → (b : Bool) → number_of (Some (if b
        then record { is_negative = negative; top = d.value; bottom = 10 ^ (d.after_point + e.size) }
        else record { is_negative = negative; top = d.value * 10 ^ e.size; bottom = 10 ^ d.after_point })) ≡ Err Range
    by k true =
        ap (λ t. number_of (Some (record { is_negative = negative; top = t; bottom = 10 ^ (d.after_point + e.size) }))) k.2.same
        ∙ number_long negative k.0 k.1 (d.after_point + e.size) k.2.stripped k.3
    by k false =
        ap (λ t. number_of (Some (record { is_negative = negative; top = t; bottom = 10 ^ d.after_point }))) (ap (λ n. n * 10 ^ e.size) k.2.same ∙ sym (joined_powers k.0 k.1 e.size))
        ∙ number_long negative k.0 (k.1 + e.size) d.after_point k.2.stripped k.3
