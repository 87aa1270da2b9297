-- Digits without a leading zero: what is parsed of them, and whose text they are.
use Rattle.std.proofs.Common.{◌≡◌, ◌∙◌, ◌&&◌, ap, ap₂, sym, Bool, ℕ, List, [], ◌∷◌, length, true, rules, arith, inl, inr, ◌<◌, ◌≤◌, ◌^◌, refl}
use Rattle.std.specs.Prelude.{Some, None, Err, IsTrue, decimal, nat_le, if◌then◌else◌}
use Rattle.std.specs.List.{list_all}
use Rattle.std.specs.Str.Parse.{ParsesUnsigned, digits_value}
use Rattle.std.proofs.lemmas.Str.Parse.{IsNumeralModel, numerals_by_value, parse_digits}
use Rattle.std.proofs.lemmas.Bool.{and_parts, cases_lt, le-leb, leb-true}
use Rattle.std.proofs.lemmas.Option.{cond_some}
use Rattle.std.proofs.lemmas.Fmt.{decimal-digits_value, decimal_digit, digits_decimal, digits_value-decimal, first_decimal}
use Rattle.std.proofs.Math.ListN.{get_or}
use Rattle.number_specs.specs.Digits.{is_digit}
use Rattle.command_words.specs.CommandLine.{is_plain_number, number_in}

own : IsNumeralModel (λ ds. list_all is_digit ds ≡ true) (digits_value 10)
own = numerals_by_value (λ ds. list_all is_digit ds ≡ true) (search rules)

plain_digits : (ds : List ℕ) → is_plain_number ds ≡ true → list_all is_digit ds ≡ true
plain_digits [] h = refl
plain_digits (d ∷ []) h = grind arith
plain_digits (d ∷ e ∷ ds) h = grind arith

some_digit : (ds : List ℕ) → is_plain_number ds ≡ true → 0 < length ds
some_digit [] h = cc
some_digit (d ∷ ds) h = omega arith

-- digits that are no number of 32 bits write a larger one
pub too_large : {E : Type 0} (ds : List ℕ) (e : E) → IsTrue (is_plain_number ds) → ParsesUnsigned 32 10 ds (Err e) → 2 ^ 32 ≤ digits_value 10 ds
too_large ds e h p = elim (cases_lt (digits_value 10 ds) (2 ^ 32)) [
  | inl small ↦ absurd (parse_digits own 32 ds (Err e) p (plain_digits ds h) (some_digit ds h, small))
  | inr large ↦ large
]

-- ---- the text of a number

lone_zero : (ds : List ℕ) → is_plain_number ds ≡ true → get_or ds 0 0 ≡ 48 → length ds ≡ 1
lone_zero [] h e = absurd (omega arith)
lone_zero (d ∷ ds) h e = grind arith

nonzero_is_plain : (ds : List ℕ) → list_all is_digit ds ≡ true → 48 < get_or ds 0 0 → is_plain_number ds ≡ true
nonzero_is_plain [] h e = absurd (omega arith)
nonzero_is_plain (d ∷ ds) h e = grind arith

decimal_is_plain : (n : ℕ) → n < 2 ^ 64 → is_plain_number (decimal n) ≡ true
decimal_is_plain n small = elim (cases_lt 0 n) [
  | inl some ↦ nonzero_is_plain (decimal n) (digits_decimal own n small) (first_decimal n some small)
  | inr none ↦ let zero : n ≡ 0 = omega arith in ap is_plain_number (ap decimal zero ∙ decimal_digit 0 (omega arith))
]

-- a word in the range is the text of its number
pub text_of_number : (least most n : ℕ) (word : List ℕ) → most < 2 ^ 64 → number_in least most word ≡ Some n →
    (least ≤ n) × (n ≤ most) × (word ≡ decimal n)
text_of_number least most n word small e =
    let parts = cond_some (is_plain_number word && (nat_le least (digits_value 10 word) && nat_le (digits_value 10 word) most)) (digits_value 10 word) n e in
    let tests = and_parts (is_plain_number word) (nat_le least (digits_value 10 word) && nat_le (digits_value 10 word) most) parts.0 in
    let ends = and_parts (nat_le least (digits_value 10 word)) (nat_le (digits_value 10 word) most) tests.1 in
    let above = leb-true least (digits_value 10 word) ends.0 in
    let below = leb-true (digits_value 10 word) most ends.1 in
    let text = decimal-digits_value own word (plain_digits word tests.0) (some_digit word tests.0) (lone_zero word tests.0) (omega (arith, below)) in
    (omega (arith, above, parts.1), omega (arith, below, parts.1), sym text ∙ ap decimal parts.1)

-- the text of a number in the range writes it
pub number_of_text : (least most n : ℕ) (word : List ℕ) → most < 2 ^ 64 → (least ≤ n) × (n ≤ most) × (word ≡ decimal n) →
    number_in least most word ≡ Some n
number_of_text least most n word small h =
    let fits : n < 2 ^ 64 = omega (arith, h.1) in
    let plain = decimal_is_plain n fits in
    let value = digits_value-decimal own n fits in
    ap (number_in least most) h.2
    ∙ ap₂ (λ (t : Bool) (v : ℕ). if t && (nat_le least v && nat_le v most) then Some v else None) plain value
    ∙ ap₂ (λ (t u : Bool). if t && u then Some n else None) (le-leb least n h.0) (le-leb n most h.1)
