-- Names and numbers are ASCII.
use Rattle.std.proofs.Common.{◌≡◌, ℕ, zero, suc, ◌+◌, ◌-◌, ◌*◌, ◌<◌, Bool, true, false, ◌&&◌, ◌||◌, not, IsTrue, nat_le, if◌then◌else◌, ◌==◌, List, [], ◌∷◌, Option, Some, None, Result, Ok, Err, refl, arith}
use Rattle.std.specs.Str.{IsAscii, IsUtf8, is_utf8}
use Rattle.std.proofs.lemmas.Str.{IsUtf8-from_ascii, IsUtf8-from_is_utf8}
use Rattle.std.specs.List.{list_all}
use Rattle.poly_specs.specs.Fractions.{Fraction}
use Rattle.number_specs.specs.Digits.{is_digit}
use Rattle.number_specs.specs.declared.NumFault.{NumFault}
use Rattle.number_specs.specs.declared.NumFault.TheVariants.{Form, Range}
use Rattle.number_specs.specs.LogNumbers.{Digits, no_digits, with_digit, mantissa_from, small_from, Exponent, with_size, exponent_behind, exponent_of, Decimal, with_exponent, unsigned_of, decimal_of, is_in_range, value_of, number_of, read_number}
use Rattle.run_specs.specs.Names.{is_word_byte, is_name}

ascii_none : IsAscii []
ascii_none i = grind arith

ascii_more : (b : ℕ) (bytes : List ℕ) → b < 128 → IsAscii bytes → IsAscii (b ∷ bytes)
ascii_more b bytes lt h zero = lt
ascii_more b bytes lt h (suc i) = h i

digit_is_ascii : (b : ℕ) → is_digit b ≡ true → b < 128
digit_is_ascii b h = grind arith

word_byte_is_ascii : (b : ℕ) → is_word_byte b ≡ true → b < 128
word_byte_is_ascii b h = grind arith

below : (b n : ℕ) → (b == n) ≡ true → n < 128 → b < 128
below b n e h = grind arith

both_left : (a b : Bool) → (a && b) ≡ true → a ≡ true
both_left true b e = refl
both_left false b e = absurd (let no : ⊥ = cc in no)

both_right : (a b : Bool) → (a && b) ≡ true → b ≡ true
both_right true b e = e
both_right false b e = absurd (let no : ⊥ = cc in no)

pub not_utf8 : (bytes : List ℕ) → (IsUtf8 bytes → ⊥) → is_utf8 bytes ≡ false
not_utf8 bytes h = no_text (is_utf8 bytes) (λ e. h (IsUtf8-from_is_utf8 bytes e))
  where
    no_text : (t : Bool) → (t ≡ true → ⊥) → t ≡ false
    no_text true k = absurd (k refl)
    no_text false k = refl

-- ---- names

ascii_word : (bytes : List ℕ) → list_all is_word_byte bytes ≡ true → IsAscii bytes
ascii_word [] h = ascii_none
ascii_word (b ∷ bytes) h = ascii_more b bytes (word_byte_is_ascii b (both_left (is_word_byte b) (list_all is_word_byte bytes) h)) (ascii_word bytes (both_right (is_word_byte b) (list_all is_word_byte bytes) h))

-- what is no text is no name
pub no_name_unless_text : (text : List ℕ) → (IsUtf8 text → ⊥) → IsTrue (is_name text) → ⊥
no_name_unless_text text h k = h (IsUtf8-from_ascii text (ascii_word text (both_right _ _ (both_left _ _ k))))

-- ---- numbers

-- a digit, or a point where it may stand
ascii_step : (d p : Bool) (b : ℕ) → is_digit b ≡ d → (d || (b == 46) && p) ≡ true → b < 128
ascii_step true p b e h = digit_is_ascii b e
ascii_step false p b e h = below b 46 (both_left (b == 46) p h) (omega arith)

ascii_mantissa : (d : Digits) (bytes : List ℕ) → IsAscii (mantissa_from d bytes).rest → IsAscii bytes
ascii_mantissa d [] h = h
ascii_mantissa d (b ∷ bytes) h =
    let next : Digits = if is_digit b then with_digit d b else record d { has_point = true } in
    elim (is_digit b || (b == 46) && not d.has_point) as (λ t. (is_digit b || (b == 46) && not d.has_point) ≡ t → IsAscii (if t then mantissa_from next bytes else record { digits = d; rest = b ∷ bytes }).rest → IsAscii (b ∷ bytes)) [
      | true ↦ λ e k. ascii_more b bytes (ascii_step (is_digit b) (not d.has_point) b refl e) (ascii_mantissa next bytes k)
      | false ↦ λ e k. k
    ] refl h

has_some : {X : Type 0} → Option X → Bool
has_some (Some x) = true
has_some None = false

abbrev none_of : (X : Type 0) → Option X
none_of X = None

not_some : (X : Type 0) → has_some (none_of X) ≡ true → ⊥
unfolding has_some
not_some X k = cc

ascii_small : (value count : ℕ) (bytes : List ℕ) → has_some (small_from value count bytes) ≡ true → IsAscii bytes
ascii_small value count [] h = ascii_none
ascii_small value count (b ∷ bytes) h =
    elim (is_digit b) as (λ t. is_digit b ≡ t → has_some (if t then small_from (value * 10 + (b - 48)) (count + 1) bytes else none_of ℕ) ≡ true → IsAscii (b ∷ bytes)) [
      | true ↦ λ e k. ascii_more b bytes (digit_is_ascii b e) (ascii_small (value * 10 + (b - 48)) (count + 1) bytes k)
      | false ↦ λ e k. absurd (not_some ℕ k)
    ] refl h

some_size : (negative : Bool) (n : Option ℕ) → has_some (with_size negative n) ≡ true → has_some n ≡ true
unfolding has_some
some_size negative None h = absurd (let no : ⊥ = cc in no)
some_size negative (Some n) h = refl

ascii_behind : (bytes : List ℕ) → has_some (exponent_behind bytes) ≡ true → IsAscii bytes
ascii_behind [] h = ascii_none
ascii_behind (b ∷ bytes) h =
    elim (b == 43) as (λ t. (b == 43) ≡ t → has_some (if t then with_size false (small_from 0 0 bytes) else if b == 45 then with_size true (small_from 0 0 bytes) else with_size false (small_from 0 0 (b ∷ bytes))) ≡ true → IsAscii (b ∷ bytes)) [
      | true ↦ λ e k. ascii_more b bytes (below b 43 e (omega arith)) (ascii_small 0 0 bytes (some_size false _ k))
      | false ↦ λ e k.
          elim (b == 45) as (λ t. (b == 45) ≡ t → has_some (if t then with_size true (small_from 0 0 bytes) else with_size false (small_from 0 0 (b ∷ bytes))) ≡ true → IsAscii (b ∷ bytes)) [
            | true ↦ λ f l. ascii_more b bytes (below b 45 f (omega arith)) (ascii_small 0 0 bytes (some_size true _ l))
            | false ↦ λ f l. ascii_small 0 0 (b ∷ bytes) (some_size false _ l)
          ] refl k
    ] refl h

ascii_letter : (t s : Bool) (b : ℕ) → (b == 101) ≡ t → (b == 69) ≡ s → (t || s) ≡ true → b < 128
ascii_letter true s b e f h = below b 101 e (omega arith)
ascii_letter false true b e f h = below b 69 f (omega arith)
ascii_letter false false b e f h = absurd (let no : ⊥ = cc in no)

ascii_exponent : (bytes : List ℕ) → has_some (exponent_of bytes) ≡ true → IsAscii bytes
ascii_exponent [] h = ascii_none
ascii_exponent (b ∷ bytes) h =
    elim ((b == 101) || (b == 69)) as (λ t. ((b == 101) || (b == 69)) ≡ t → has_some (if t then exponent_behind bytes else none_of Exponent) ≡ true → IsAscii (b ∷ bytes)) [
      | true ↦ λ e k. ascii_more b bytes (ascii_letter (b == 101) (b == 69) b refl refl e) (ascii_behind bytes k)
      | false ↦ λ e k. absurd (not_some Exponent k)
    ] refl h

some_exponent : (negative : Bool) (d : Digits) (e : Option Exponent) → has_some (with_exponent negative d e) ≡ true → has_some e ≡ true
unfolding has_some
some_exponent negative d None h = absurd (let no : ⊥ = cc in no)
some_exponent negative d (Some e) h = refl

ascii_unsigned : (negative : Bool) (bytes : List ℕ) → has_some (unsigned_of negative bytes) ≡ true → IsAscii bytes
ascii_unsigned negative bytes h =
    let m = mantissa_from no_digits bytes in
    ascii_mantissa no_digits bytes (ascii_exponent m.rest (some_exponent negative m.digits (exponent_of m.rest) h))

ascii_decimal : (bytes : List ℕ) → has_some (decimal_of bytes) ≡ true → IsAscii bytes
ascii_decimal [] h = ascii_none
ascii_decimal (b ∷ bytes) h =
    elim (b == 43) as (λ t. (b == 43) ≡ t → has_some (if t then unsigned_of false bytes else if b == 45 then unsigned_of true bytes else unsigned_of false (b ∷ bytes)) ≡ true → IsAscii (b ∷ bytes)) [
      | true ↦ λ e k. ascii_more b bytes (below b 43 e (omega arith)) (ascii_unsigned false bytes k)
      | false ↦ λ e k.
          elim (b == 45) as (λ t. (b == 45) ≡ t → has_some (if t then unsigned_of true bytes else unsigned_of false (b ∷ bytes)) ≡ true → IsAscii (b ∷ bytes)) [
            | true ↦ λ f l. ascii_more b bytes (below b 45 f (omega arith)) (ascii_unsigned true bytes l)
            | false ↦ λ f l. ascii_unsigned false (b ∷ bytes) l
          ] refl k
    ] refl h

form_is : (d : Option Decimal) → (has_some d ≡ true → ⊥) → Err Form ≡ number_of d
unfolding has_some
form_is None h = refl
form_is (Some d) h = absurd (h refl)

-- what is no text is no number
pub form_unless_text : (text : List ℕ) → (IsUtf8 text → ⊥) → Err Form ≡ read_number text
form_unless_text text h = form_is (decimal_of text) (λ k. h (IsUtf8-from_ascii text (ascii_decimal text k)))
