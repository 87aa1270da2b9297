-- Literals and names are ASCII.
use Rattle.std.proofs.Common.{◌≡◌, ℕ, zero, suc, ◌+◌, ◌-◌, ◌*◌, ◌<◌, Bool, true, false, ◌&&◌, IsTrue, nat_le, if◌then◌else◌, ◌==◌, List, [], ◌∷◌, Result, Ok, Err, refl, subst, arith}
use Rattle.std.specs.Str.{IsAscii, IsUtf8}
use Rattle.std.proofs.lemmas.Str.{IsUtf8-from_ascii}
use Rattle.std.specs.List.{list_all}
use Rattle.number_specs.specs.Digits.{is_digit, numeral_from, numeral_of, Numeral}
use Rattle.number_specs.specs.Literals.{read_literal, literal_with, is_numeral, is_empty, divided_literal, decimal_literal}
use Rattle.poly_specs.specs.Fractions.{Fraction}
use Rattle.number_specs.specs.declared.NumFault.{NumFault}
use Rattle.number_specs.specs.declared.NumFault.TheVariants.{Form, Range}
use Rattle.run_specs.specs.Names.{is_word_byte, is_name}

pub ascii_none : IsAscii []
ascii_none i = grind arith

pub ascii_more : (b : ℕ) (bytes : List ℕ) → b < 128 → IsAscii bytes → IsAscii (b ∷ bytes)
ascii_more b bytes lt h zero = lt
ascii_more b bytes lt h (suc i) = h i

digit_is_ascii : (b : ℕ) → is_digit b ≡ true → b < 128
digit_is_ascii b h = grind arith

word_byte_is_ascii : (b : ℕ) → is_word_byte b ≡ true → b < 128
word_byte_is_ascii b h = grind arith

ascii_numeral : (value count : ℕ) (bytes : List ℕ) → IsAscii (numeral_from value count bytes).rest → IsAscii bytes
ascii_numeral value count [] h = h
ascii_numeral value count (b ∷ bytes) h =
    elim (is_digit b) as (λ d. is_digit b ≡ d → IsAscii (if d then numeral_from (value * 10 + (b - 48)) (count + 1) bytes else record { value = value; count = count; rest = b ∷ bytes }).rest → IsAscii (b ∷ bytes)) [
      | true ↦ λ e k. ascii_more b bytes (digit_is_ascii b e) (ascii_numeral (value * 10 + (b - 48)) (count + 1) bytes k)
      | false ↦ λ e k. k
    ] refl h

both_left : (a b : Bool) → (a && b) ≡ true → a ≡ true
both_left true b e = refl
both_left false b e = absurd (let no : ⊥ = cc in no)

both_right : (a b : Bool) → (a && b) ≡ true → b ≡ true
both_right true b e = e
both_right false b e = absurd (let no : ⊥ = cc in no)

empty_rest : (bytes : List ℕ) → is_empty bytes ≡ true → IsAscii bytes
empty_rest [] h = ascii_none
empty_rest (b ∷ bytes) h = absurd (let no : ⊥ = cc in no)

-- what stands behind the first digits of a literal is empty, or a digit's list behind a sign
ascii_behind : (d : Numeral) (bytes : List ℕ) → d ≡ numeral_of bytes → is_numeral d ≡ true → IsAscii bytes
ascii_behind d bytes e h =
    ascii_numeral 0 0 bytes (subst (λ n. IsAscii n.rest) e (empty_rest d.rest (both_right (nat_le 1 d.count) (is_empty d.rest) h)))

is_read : Result Fraction NumFault → Bool
is_read (Ok v) = true
is_read (Err Range) = true
is_read (Err Form) = false

read_if : (a : Bool) (r : Result Fraction NumFault) → is_read (if a then r else Err Form) ≡ true → is_read r ≡ true
unfolding is_read
read_if true r h = h
read_if false r h = absurd (let no : ⊥ = cc in no)

read_both : (a c : Bool) (r : Result Fraction NumFault) → is_read (if a && c then r else Err Form) ≡ true → a ≡ true
unfolding is_read
read_both true c r h = refl
read_both false c r h = absurd (let no : ⊥ = cc in no)

read_both_one : (a : Bool) (r : Result Fraction NumFault) → is_read (if a then r else Err Form) ≡ true → a ≡ true
unfolding is_read
read_both_one true r h = refl
read_both_one false r h = absurd (let no : ⊥ = cc in no)

not_form : is_read (Err Form) ≡ true → ⊥
unfolding is_read
not_form h = cc

below : (b n : ℕ) → (b == n) ≡ true → n < 128 → b < 128
below b n e h = grind arith

ascii_with : (n : Numeral) (rest : List ℕ) → is_read (literal_with n rest) ≡ true → IsAscii rest
ascii_with n [] h = ascii_none
ascii_with n (b ∷ bytes) h =
    elim (b == 47) as (λ x. (b == 47) ≡ x → is_read (if x then divided_literal n (numeral_of bytes) else if b == 46 then decimal_literal n (numeral_of bytes) else Err Form) ≡ true → IsAscii (b ∷ bytes)) [
      | true ↦ λ e k. ascii_more b bytes (below b 47 e (omega arith)) (ascii_behind (numeral_of bytes) bytes refl (read_both (is_numeral (numeral_of bytes)) _ _ k))
      | false ↦ λ e k.
          elim (b == 46) as (λ x. (b == 46) ≡ x → is_read (if x then decimal_literal n (numeral_of bytes) else Err Form) ≡ true → IsAscii (b ∷ bytes)) [
            | true ↦ λ f l. ascii_more b bytes (below b 46 f (omega arith)) (ascii_behind (numeral_of bytes) bytes refl (read_both_one (is_numeral (numeral_of bytes)) _ l))
            | false ↦ λ f l. absurd (not_form l)
          ] refl k
    ] refl h

ascii_literal : (text : List ℕ) → is_read (read_literal text) ≡ true → IsAscii text
ascii_literal text h =
    let n = numeral_of text in
    ascii_numeral 0 0 text (ascii_with n n.rest (read_if (nat_le 1 n.count) (literal_with n n.rest) h))

form_is : (r : Result Fraction NumFault) → (is_read r ≡ true → ⊥) → Err Form ≡ r
unfolding is_read
form_is (Ok v) h = absurd (h refl)
form_is (Err Range) h = absurd (h refl)
form_is (Err Form) h = refl

-- what is no text is no literal
pub form_unless_text : (text : List ℕ) → (IsUtf8 text → ⊥) → Err Form ≡ read_literal text
form_unless_text text h = form_is (read_literal text) (λ k. h (IsUtf8-from_ascii text (ascii_literal text k)))

ascii_word : (bytes : List ℕ) → list_all is_word_byte bytes ≡ true → IsAscii bytes
ascii_word [] h = ascii_none
ascii_word (b ∷ bytes) h = ascii_more b bytes (word_byte_is_ascii b (both_left (is_word_byte b) (list_all is_word_byte bytes) h)) (ascii_word bytes (both_right (is_word_byte b) (list_all is_word_byte bytes) h))

-- what is no text is no name
pub no_name_unless_text : (text : List ℕ) → (IsUtf8 text → ⊥) → IsTrue (is_name text) → ⊥
no_name_unless_text text h k = h (IsUtf8-from_ascii text (ascii_word text (both_right _ _ (both_left _ _ k))))
