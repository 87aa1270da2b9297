-- Each literal among the tokens of a line has a value, or too many digits.
use Rattle.std.proofs.Common.{◌≡◌, ℕ, zero, suc, ◌+◌, ◌-◌, ◌==◌, Bool, true, false, not, if◌then◌else◌, List, [], ◌∷◌, take, Some, Result, Ok, Err, refl, sym, ap}
use Rattle.std.specs.List.{find, list_all, starts_with}
use Rattle.std.specs.Option.{unwrap_or}
use Rattle.std.specs.Str.{bytes_eq}
use Rattle.poly_specs.specs.Fractions.{Fraction}
use Rattle.number_specs.specs.Digits.{is_digit}
use Rattle.number_specs.specs.Literals.{read_literal}
use Rattle.number_specs.specs.declared.NumFault.{NumFault}
use Rattle.number_specs.specs.declared.NumFault.TheVariants.{Form, Range}
use Rattle.lang_specs.specs.declared.Kind.{Kind}
use Rattle.lang_specs.specs.declared.Kind.TheVariants.{Name, Number, Other}
use Rattle.lang_specs.specs.Words.{spelled, keyword_kinds, sign_kinds}
use Rattle.lang_specs.specs.Tokens.{is_blank, begins_comment, begins_word, word_len, literal_len, kind_of_literal, token_at, word_at, literal_at, sign_at, placed, behind, end_of_line, cut, line_tokens}
use Rattle.lang_specs.specs.Marks.{Mark, mark}
use Rattle.lang_tokens.specs.Kinds.{same_kind}
use Rattle.lang_tokens.proofs.Walks.{both}
use Rattle.lang_tokens.specs.LineFaults.{marks, is_value, is_literal, AreLiterals}

abbrev no_number : Kind → Bool
no_number k = not (same_kind k Number)

found_no_number : (p : Kind → Bool) (ks : List Kind) (d : Kind) → list_all no_number ks ≡ true → no_number d ≡ true → no_number (unwrap_or (find p ks) d) ≡ true
found_no_number p [] d h e = e
found_no_number p (k ∷ ks) d h e =
    elim (p k) as (λ x. no_number (unwrap_or (if x then Some k else find p ks) d) ≡ true) [
      | true ↦ (both (no_number k) (list_all no_number ks) h).0
      | false ↦ found_no_number p ks d (both (no_number k) (list_all no_number ks) h).1 e
    ]

-- what is no literal needs no value
unless_number : (b v : Bool) → not b ≡ true → (if b then v else true) ≡ true
unless_number true v e = absurd cc
unless_number false v e = refl

plain_mark : (m : Mark) → no_number m.kind ≡ true → is_literal m ≡ true
plain_mark m h = unless_number (same_kind m.kind Number) (is_value (read_literal m.text)) h

literal_mark : (line column : ℕ) (text : List ℕ) (r : Result Fraction NumFault) → r ≡ read_literal text →
    is_literal (mark (record { line = line; column = column; kind = kind_of_literal r; text = text })) ≡ true
literal_mark line column text (Ok v) e = ap is_value (sym e)
literal_mark line column text (Err Range) e = ap is_value (sym e)
literal_mark line column text (Err Form) e = refl

word_mark : (line column : ℕ) (literal : Bool) (bytes : List ℕ) → is_literal (mark (placed line column (word_at literal bytes) bytes)) ≡ true
word_mark line column true bytes = refl
word_mark line column false bytes =
    plain_mark (mark (placed line column (word_at false bytes) bytes))
    (found_no_number (λ k. bytes_eq (take (word_len bytes) bytes) (spelled k)) keyword_kinds Name refl refl)

sign_mark : (line column : ℕ) (bytes : List ℕ) → is_literal (mark (placed line column (sign_at bytes) bytes)) ≡ true
sign_mark line column bytes =
    plain_mark (mark (placed line column (sign_at bytes) bytes)) (found_no_number (λ k. starts_with (λ a b. a == b) bytes (spelled k)) sign_kinds Other refl refl)

token_mark : (line column : ℕ) (literal : Bool) (b : ℕ) (bytes : List ℕ) → is_literal (mark (placed line column (token_at literal b bytes) bytes)) ≡ true
token_mark line column literal b bytes =
    elim (begins_word b) as (λ x. is_literal (mark (placed line column (if x then word_at literal bytes else if is_digit b then literal_at bytes else sign_at bytes) bytes)) ≡ true) [
      | true ↦ word_mark line column literal bytes
      | false ↦
          elim (is_digit b) as (λ y. is_literal (mark (placed line column (if y then literal_at bytes else sign_at bytes) bytes)) ≡ true) [
            | true ↦ literal_mark line column (take (literal_len bytes) bytes) (read_literal (take (literal_len bytes) bytes)) refl
            | false ↦ sign_mark line column bytes
          ]
    ]

cut_literals : (line inside column last : ℕ) (literal : Bool) (bytes : List ℕ) → AreLiterals (marks (cut line inside column last literal bytes))
unfolding cut
cut_literals line inside column last literal [] = (refl, tt)
cut_literals line (suc inside) column last literal (b ∷ bytes) = cut_literals line inside (column + 1) last literal bytes
cut_literals line zero column last literal (b ∷ bytes) =
    let found = token_at literal b (b ∷ bytes) in
    let rest = cut line (found.size - 1) (column + 1) (behind column found b last) (is_digit b) bytes in
    elim (is_blank b) as (λ x. AreLiterals (marks (if x then cut line 0 (column + 1) last false bytes else if begins_comment b then end_of_line line last ∷ []
    else placed line column found (b ∷ bytes) ∷ rest))) [
      | true ↦ cut_literals line 0 (column + 1) last false bytes
      | false ↦
          elim (begins_comment b) as (λ y. AreLiterals (marks (if y then end_of_line line last ∷ [] else placed line column found (b ∷ bytes) ∷ rest))) [
            | true ↦ (refl, tt)
            | false ↦ (token_mark line column literal b (b ∷ bytes), cut_literals line (found.size - 1) (column + 1) (behind column found b last) (is_digit b) bytes)
          ]
    ]

-- the literals of a line
pub line_literals : (line : ℕ) (bytes : List ℕ) → AreLiterals (marks (line_tokens line bytes))
line_literals line bytes = cut_literals line 0 1 1 false bytes
