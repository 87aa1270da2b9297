-- What is scanned as a number is written as one.
use Rattle.std.proofs.Common.{◌≡◌, ◌⊎◌, ◌↔◌, inl, inr, ℕ, ◌+◌, ◌-◌, ◌*◌, ◌<◌, ◌≤◌, Bool, true, false, ◌&&◌, ◌||◌, not, if◌then◌else◌, List, [], ◌∷◌, ◌++◌, length, Option, Some, None, Result, Ok, Err, refl, sym, ◌∙◌, ap, subst, arith, ℤ, pos, codes}
use Rattle.std.specs.Prelude.{nat_le, ◌==◌}
use Rattle.std.specs.Char.{digit_value}
use Rattle.std.specs.Str.Parse.{AllDigits, digits_value}
use Rattle.std.proofs.lemmas.Bool.{leb-true, leb-false, eqb-true}
use Rattle.std.proofs.lemmas.Str.{digit_value_digit}
use Rattle.poly_specs.specs.Fractions.{Fraction}
use Rattle.number_specs.proofs.FormLemmas.{Means, means}
use Rattle.number_specs.proofs.TextLemmas.{whole_digits}
use Rattle.number_specs.specs.Digits.{is_digit}
use Rattle.number_specs.specs.LogNumbers.{Digits, no_digits, with_digit, Mantissa, mantissa_from, small_from, Exponent, with_size, exponent_behind, exponent_of, Decimal, moved, with_exponent, unsigned_of, decimal_of, is_in_range, signed, value_of, number_of, read_number}
use Rattle.number_specs.specs.NumberForms.{IsSign, IsPoint, HasExponent, IsExponent, Writing, IsWriting}
use Rattle.number_specs.specs.declared.NumFault.{NumFault}
use Rattle.number_specs.specs.declared.NumFault.TheVariants.{Form, Range}

-- ---- one digit

and_parts : (a b : Bool) → a && b ≡ true → (a ≡ true) × (b ≡ true)
and_parts true b e = (refl, e)
and_parts false b e = absurd (let f : ⊥ = cc in f)

is_ten : (b : ℕ) → is_digit b ≡ true → digit_value b < 10
is_ten b e =
    let h = and_parts (nat_le 48 b) (nat_le b 57) e in
    let low = leb-true 48 b h.0 in
    let high = leb-true b 57 h.1 in
    omega (arith, digit_value_digit b (low, high), low, high)

-- ---- digits behind a point

record SplitsBehind (bytes : List ℕ) (m : Mantissa) (c : ℕ) : Type 0 where
  decimals : List ℕ
  parts : bytes ≡ decimals ++ m.rest
  digits : AllDigits 10 decimals
  count : m.digits.count ≡ c + length decimals

abbrev behind_point : ℕ → ℕ → ℕ → Digits
behind_point v c a = record { value = v; count = c; has_point = true; after_point = a }

behind_byte : (b : ℕ) (bytes : List ℕ) (v c a : ℕ) (t s : Bool) → is_digit b ≡ t →
    SplitsBehind bytes (mantissa_from (behind_point (v * 10 + (b - 48)) (c + 1) (a + 1)) bytes) (c + 1) →
    SplitsBehind (b ∷ bytes) (if t || s && false
    then mantissa_from (if t then with_digit (behind_point v c a) b else behind_point v c a) bytes
    else record { digits = behind_point v c a; rest = b ∷ bytes }) c
behind_byte b bytes v c a true s e r = record {
  decimals = b ∷ r.decimals;
  parts = ap (λ z. b ∷ z) r.parts;
  digits = (is_ten b e, r.digits);
  count = omega (arith, r.count);
}
behind_byte b bytes v c a false true e r = record { decimals = []; parts = refl; digits = tt; count = omega arith }
behind_byte b bytes v c a false false e r = record { decimals = []; parts = refl; digits = tt; count = omega arith }

splits_behind : (bytes : List ℕ) (v c a : ℕ) → SplitsBehind bytes (mantissa_from (behind_point v c a) bytes) c
splits_behind [] v c a = record { decimals = []; parts = refl; digits = tt; count = omega arith }
splits_behind (b ∷ bytes) v c a =
    behind_byte b bytes v c a (is_digit b) (b == 46) refl (splits_behind bytes (v * 10 + (b - 48)) (c + 1) (a + 1))

-- ---- digits, and maybe a point and more of them

record Splits (bytes : List ℕ) (m : Mantissa) (c : ℕ) : Type 0 where
  whole : List ℕ
  tail : List ℕ
  decimals : List ℕ
  parts : bytes ≡ whole ++ (tail ++ m.rest)
  whole_digits : AllDigits 10 whole
  is_point : IsPoint tail decimals
  decimal_digits : AllDigits 10 decimals
  count : m.digits.count ≡ c + (length whole + length decimals)

stops : (bytes : List ℕ) (v c : ℕ) → Splits bytes (record { digits = whole_digits v c; rest = bytes }) c
stops bytes v c = record {
  whole = [];
  tail = [];
  decimals = [];
  parts = refl;
  whole_digits = tt;
  is_point = inr (refl, refl);
  decimal_digits = tt;
  count = omega arith;
}

byte : (b : ℕ) (bytes : List ℕ) (v c : ℕ) (t s : Bool) → is_digit b ≡ t → b == 46 ≡ s →
    Splits bytes (mantissa_from (whole_digits (v * 10 + (b - 48)) (c + 1)) bytes) (c + 1) →
    SplitsBehind bytes (mantissa_from (behind_point v c 0) bytes) c →
    Splits (b ∷ bytes) (if t || s && true
    then mantissa_from (if t then with_digit (whole_digits v c) b else behind_point v c 0) bytes
    else record { digits = whole_digits v c; rest = b ∷ bytes }) c
byte b bytes v c true s e f r h = record {
  whole = b ∷ r.whole;
  tail = r.tail;
  decimals = r.decimals;
  parts = ap (λ z. b ∷ z) r.parts;
  whole_digits = (is_ten b e, r.whole_digits);
  is_point = r.is_point;
  decimal_digits = r.decimal_digits;
  count = omega (arith, r.count);
}
byte b bytes v c false true e f r h =
    let point : b ≡ 46 = eqb-true b 46 f in record {
      whole = [];
      tail = 46 ∷ h.decimals;
      decimals = h.decimals;
      parts = ap (λ z. z ∷ bytes) point ∙ ap (λ z. 46 ∷ z) h.parts;
      whole_digits = tt;
      is_point = inl refl;
      decimal_digits = h.digits;
      count = omega (arith, h.count);
    }
byte b bytes v c false false e f r h = stops (b ∷ bytes) v c

splits : (bytes : List ℕ) (v c : ℕ) → Splits bytes (mantissa_from (whole_digits v c) bytes) c
splits [] v c = stops [] v c
splits (b ∷ bytes) v c =
    byte b bytes v c (is_digit b) (b == 46) refl refl (splits bytes (v * 10 + (b - 48)) (c + 1)) (splits_behind bytes v c 0)

-- ---- an exponent

record AreFew (ds : List ℕ) (c : ℕ) : Type 0 where
  digits : AllDigits 10 ds
  some : 1 ≤ c + length ds
  few : c + length ds ≤ 4

small_end : (v c n : ℕ) (t : Bool) → nat_le 1 c && nat_le c 4 ≡ t → (if t then Some v else None) ≡ Some n → AreFew [] c
small_end v c n true e h =
    let k = and_parts (nat_le 1 c) (nat_le c 4) e in
    let some = leb-true 1 c k.0 in
    let few = leb-true c 4 k.1 in
    record { digits = tt; some = omega (arith, some); few = omega (arith, few) }
small_end v c n false e h = absurd (let f : ⊥ = cc in f)

small_byte : (b : ℕ) (ds : List ℕ) (v c n : ℕ) (t : Bool) → is_digit b ≡ t → (small_from (v * 10 + (b - 48)) (c + 1) ds ≡ Some n → AreFew ds (c + 1)) →
    (if t then small_from (v * 10 + (b - 48)) (c + 1) ds else None) ≡ Some n → AreFew (b ∷ ds) c
small_byte b ds v c n true e r h =
    let k = r h in record { digits = (is_ten b e, k.digits); some = omega (arith, k.some); few = omega (arith, k.few) }
small_byte b ds v c n false e r h = absurd (let f : ⊥ = cc in f)

small_digits : (ds : List ℕ) (v c n : ℕ) → small_from v c ds ≡ Some n → AreFew ds c
small_digits [] v c n h = small_end v c n (nat_le 1 c && nat_le c 4) refl h
small_digits (b ∷ ds) v c n h = small_byte b ds v c n (is_digit b) refl (small_digits ds (v * 10 + (b - 48)) (c + 1) n) h

-- what stands behind the letter of an exponent
record IsBehindLetter (bytes : List ℕ) : Type 0 where
  sign : List ℕ
  digits : List ℕ
  is_negative : Bool
  parts : bytes ≡ sign ++ digits
  is_sign : IsSign sign is_negative
  are : AreFew digits 0

sized : (bytes sign ds : List ℕ) (negative : Bool) (o : Option ℕ) (e : Exponent) → bytes ≡ sign ++ ds → IsSign sign negative →
    small_from 0 0 ds ≡ o → with_size negative o ≡ Some e → IsBehindLetter bytes
sized bytes sign ds negative None e p s f h = absurd (let b : ⊥ = cc in b)
sized bytes sign ds negative (Some n) e p s f h =
    record { sign = sign; digits = ds; is_negative = negative; parts = p; is_sign = s; are = small_digits ds 0 0 n f }

signed_behind : (b : ℕ) (bytes : List ℕ) (e : Exponent) (plus minus : Bool) → b == 43 ≡ plus → b == 45 ≡ minus →
    (if plus then with_size false (small_from 0 0 bytes) else (if minus then with_size true (small_from 0 0 bytes) else with_size false (small_from 0 0 (b ∷ bytes)))) ≡ Some e →
    IsBehindLetter (b ∷ bytes)
signed_behind b bytes e true minus p m h =
    sized (b ∷ bytes) (43 ∷ []) bytes false (small_from 0 0 bytes) e (ap (λ z. z ∷ bytes) (eqb-true b 43 p)) (inr refl) refl h
signed_behind b bytes e false true p m h =
    sized (b ∷ bytes) (45 ∷ []) bytes true (small_from 0 0 bytes) e (ap (λ z. z ∷ bytes) (eqb-true b 45 m)) refl refl h
signed_behind b bytes e false false p m h = sized (b ∷ bytes) [] (b ∷ bytes) false (small_from 0 0 (b ∷ bytes)) e refl (inl refl) refl h

behind_letter : (bytes : List ℕ) (e : Exponent) → exponent_behind bytes ≡ Some e → IsBehindLetter bytes
behind_letter [] e h = absurd (let b : ⊥ = cc in b)
behind_letter (b ∷ bytes) e h = signed_behind b bytes e (b == 43) (b == 45) refl refl h

abbrev HasSome : List ℕ → Type 0
HasSome text = (z : ℤ) × IsExponent text z

with_letter : (b : ℕ) (bytes : List ℕ) → (b ∷ [] ≡ codes "e") ⊎ (b ∷ [] ≡ codes "E") → IsBehindLetter bytes → HasSome (b ∷ bytes)
with_letter b bytes l h = (
  signed h.is_negative (digits_value 10 h.digits),
  inl (record {
    letter = b ∷ [];
    sign = h.sign;
    digits = h.digits;
    is_negative = h.is_negative;
    parts = ap (λ z. b ∷ z) h.parts;
    is_letter = l;
    is_sign = h.is_sign;
    are_digits = h.are.digits;
    some = omega (arith, h.are.some);
    few = omega (arith, h.are.few);
    value = refl;
  }),
)

letter_byte : (b : ℕ) (bytes : List ℕ) (e : Exponent) (small large : Bool) → b == 101 ≡ small → b == 69 ≡ large →
    (if small || large then exponent_behind bytes else None) ≡ Some e → HasSome (b ∷ bytes)
letter_byte b bytes e true large p q h = with_letter b bytes (inl (ap (λ z. z ∷ []) (eqb-true b 101 p))) (behind_letter bytes e h)
letter_byte b bytes e false true p q h = with_letter b bytes (inr (ap (λ z. z ∷ []) (eqb-true b 69 q))) (behind_letter bytes e h)
letter_byte b bytes e false false p q h = absurd (let f : ⊥ = cc in f)

is_exponent : (text : List ℕ) (e : Exponent) → exponent_of text ≡ Some e → HasSome text
is_exponent [] e h = (pos 0, inr (refl, refl))
is_exponent (b ∷ bytes) e h = letter_byte b bytes e (b == 101) (b == 69) refl refl h

-- ---- a number

abbrev IsWritten : List ℕ → Type 0
IsWritten text = (w : Writing) × IsWriting text w

some_of : (a b c : ℕ) → c ≡ 0 + (a + b) → nat_le 1 c ≡ true → (t : Bool) → nat_le 1 a ≡ t → (1 ≤ a) ⊎ (1 ≤ b)
some_of a b c e h true f = inl (leb-true 1 a f)
some_of a b c e h false f = let none = leb-false 1 a f in let some = leb-true 1 c h in inr (omega (arith, none, some, e))

counted : (text sign body : List ℕ) (negative : Bool) (e : Exponent) (x : Decimal) → text ≡ sign ++ body → IsSign sign negative →
    exponent_of (mantissa_from no_digits body).rest ≡ Some e → (t : Bool) → nat_le 1 (mantissa_from no_digits body).digits.count ≡ t →
    (if t then Some (moved negative (mantissa_from no_digits body).digits e) else None) ≡ Some x → IsWritten text
counted text sign body negative e x p s f true k h =
    let m = splits body 0 0 in
    let z = is_exponent (mantissa_from no_digits body).rest e f in (
      record { is_negative = negative; whole = m.whole; decimals = m.decimals; exponent = z.0 },
      record {
        sign = sign;
        tail = m.tail;
        end = (mantissa_from no_digits body).rest;
        parts = p ∙ ap (λ i. sign ++ i) m.parts;
        is_sign = s;
        whole_digits = m.whole_digits;
        is_point = m.is_point;
        decimal_digits = m.decimal_digits;
        some = some_of (length m.whole) (length m.decimals) (mantissa_from no_digits body).digits.count m.count k (nat_le 1 (length m.whole)) refl;
        is_exponent = z.1;
      },
    )
counted text sign body negative e x p s f false k h = absurd (let b : ⊥ = cc in b)

with_end : (text sign body : List ℕ) (negative : Bool) (o : Option Exponent) (x : Decimal) → text ≡ sign ++ body → IsSign sign negative →
    exponent_of (mantissa_from no_digits body).rest ≡ o → with_exponent negative (mantissa_from no_digits body).digits o ≡ Some x → IsWritten text
with_end text sign body negative None x p s f h = absurd (let b : ⊥ = cc in b)
with_end text sign body negative (Some e) x p s f h =
    counted text sign body negative e x p s f (nat_le 1 (mantissa_from no_digits body).digits.count) refl h

behind_sign : (text sign body : List ℕ) (negative : Bool) (x : Decimal) → text ≡ sign ++ body → IsSign sign negative →
    unsigned_of negative body ≡ Some x → IsWritten text
behind_sign text sign body negative x p s h = with_end text sign body negative (exponent_of (mantissa_from no_digits body).rest) x p s refl h

sign_byte : (b : ℕ) (bytes : List ℕ) (x : Decimal) (plus minus : Bool) → b == 43 ≡ plus → b == 45 ≡ minus →
    (if plus then unsigned_of false bytes else (if minus then unsigned_of true bytes else unsigned_of false (b ∷ bytes))) ≡ Some x → IsWritten (b ∷ bytes)
sign_byte b bytes x true minus p m h = behind_sign (b ∷ bytes) (43 ∷ []) bytes false x (ap (λ z. z ∷ bytes) (eqb-true b 43 p)) (inr refl) h
sign_byte b bytes x false true p m h = behind_sign (b ∷ bytes) (45 ∷ []) bytes true x (ap (λ z. z ∷ bytes) (eqb-true b 45 m)) refl h
sign_byte b bytes x false false p m h = behind_sign (b ∷ bytes) [] (b ∷ bytes) false x refl (inl refl) h

is_written : (text : List ℕ) (x : Decimal) → decimal_of text ≡ Some x → IsWritten text
is_written [] x h = absurd (let b : ⊥ = cc in b)
is_written (b ∷ bytes) x h = sign_byte b bytes x (b == 43) (b == 45) refl refl h

-- ---- the law

no_form : (b : Bool) (v : Fraction) → (if b then Ok v else Err Range) ≡ Err Form → ⊥
no_form true v e = let f : ⊥ = cc in f
no_form false v e = let f : ⊥ = cc in f

else_no_form : (text : List ℕ) (o : Option Decimal) → decimal_of text ≡ o → ((w : Writing) → IsWriting text w → ⊥) → number_of o ≡ Err Form
else_no_form text None e none = refl
else_no_form text (Some x) e none = let w = is_written text x e in absurd (none w.0 w.1)

pub no_other_form : (text : List ℕ) → (read_number text ≡ Err Form) ↔ ((w : Writing) → IsWriting text w → ⊥)
no_other_form text = (
  λ e w is. let m = means text w is in no_form (is_in_range m.decimal) (value_of m.decimal) (sym m.reads ∙ e),
  λ none. else_no_form text (decimal_of text) refl none,
)
