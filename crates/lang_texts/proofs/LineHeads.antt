-- No line begins with the end of the text.
use Rattle.std.proofs.Common.{◌≡◌, ℕ, zero, suc, ◌+◌, ◌-◌, Bool, true, false, not, if◌then◌else◌, List, [], ◌∷◌, Option, Some, Result, Ok, Err, refl, sym}
use Rattle.std.specs.Prelude.{⊤, ◌==◌, take, bytes_eq}
use Rattle.std.specs.List.{find, list_all, starts_with}
use Rattle.std.specs.Option.{unwrap_or}
use Rattle.poly_specs.specs.Fractions.{Fraction}
use Rattle.number_specs.specs.Digits.{is_digit}
use Rattle.number_specs.specs.Literals.{read_literal}
use Rattle.number_specs.specs.declared.NumFault.{NumFault}
use Rattle.number_specs.specs.declared.NumFault.TheVariants.{Form, Range}
use Rattle.lang_specs.specs.declared.Kind.{Kind}
use Rattle.lang_specs.specs.declared.Kind.TheVariants.{Name, Other, EndText}
use Rattle.lang_specs.specs.Words.{spelled, keyword_kinds, sign_kinds, word_kind}
use Rattle.lang_specs.specs.Tokens.{Placed, Found, is_blank, begins_comment, begins_word, word_len, literal_len, kind_of_literal, word_at, literal_at, sign_at, token_at, end_of_line, placed, behind, cut, line_tokens}
use Rattle.lang_specs.proofs.SplitLemmas.{both_left, both_right}

abbrev pub ends_text : Kind → Bool
ends_text EndText = true
ends_text k = false

-- what holds of both branches
either : {A : Type 0} (P : A → Type 0) (b : Bool) (x y : A) → P x → P y → P (if b then x else y)
either P true x y h k = h
either P false x y h k = k

-- ---- kinds of tokens

not_true : (b : Bool) → not b ≡ true → b ≡ false
not_true true e = sym e
not_true false e = refl

found_one : (same : Bool) (k d : Kind) (o : Option Kind) → not (ends_text k) ≡ true → ends_text (unwrap_or o d) ≡ false →
    ends_text (unwrap_or (if same then Some k else o) d) ≡ false
found_one true k d o h g = not_true (ends_text k) h
found_one false k d o h g = g

found_in : (p : Kind → Bool) (ks : List Kind) (d : Kind) → list_all (λ k. not (ends_text k)) ks ≡ true → ends_text d ≡ false →
    ends_text (unwrap_or (find p ks) d) ≡ false
found_in p [] d h g = g
found_in p (k ∷ ks) d h g =
    let first = both_left (not (ends_text k)) (list_all (λ z. not (ends_text z)) ks) h in
    let others = found_in p ks d (both_right (not (ends_text k)) (list_all (λ z. not (ends_text z)) ks) h) g in
    found_one (p k) k d (find p ks) first others

of_literal : (r : Result Fraction NumFault) → ends_text (kind_of_literal r) ≡ false
of_literal (Ok v) = refl
of_literal (Err Range) = refl
of_literal (Err Form) = refl

abbrev FoundInside : Found → Type 0
FoundInside f = ends_text f.kind ≡ false

of_word : (behind_literal : Bool) (bytes : List ℕ) → FoundInside (word_at behind_literal bytes)
of_word b bytes =
    either (λ k. ends_text k ≡ false) b Other (word_kind (take (word_len bytes) bytes)) refl
    (found_in (λ k. bytes_eq (take (word_len bytes) bytes) (spelled k)) keyword_kinds Name refl refl)

of_sign : (bytes : List ℕ) → FoundInside (sign_at bytes)
of_sign bytes = found_in (λ k. starts_with (λ a b. a == b) bytes (spelled k)) sign_kinds Other refl refl

of_token : (behind_literal : Bool) (b : ℕ) (bytes : List ℕ) → FoundInside (token_at behind_literal b bytes)
of_token l b bytes =
    either FoundInside (begins_word b) (word_at l bytes) (if is_digit b then literal_at bytes else sign_at bytes) (of_word l bytes)
    (either FoundInside (is_digit b) (literal_at bytes) (sign_at bytes) (of_literal (read_literal (take (literal_len bytes) bytes))) (of_sign bytes))

-- ---- lines

abbrev pub BeginsInside : List Placed → Type 0
BeginsInside [] = ⊤
BeginsInside (t ∷ ts) = ends_text t.kind ≡ false

cut_begins : (line inside column last : ℕ) (l : Bool) (bytes : List ℕ) → BeginsInside (cut line inside column last l bytes)
unfolding cut
cut_begins line inside column last l [] = refl
cut_begins line (suc inside) column last l (b ∷ bytes) = cut_begins line inside (column + 1) last l bytes
cut_begins line zero column last l (b ∷ bytes) =
    let found = token_at l b (b ∷ bytes) in
    let token : List Placed = placed line column found (b ∷ bytes) ∷ cut line (found.size - 1) (column + 1) (behind column found b last) (is_digit b) bytes in
    let rest : List Placed = if begins_comment b then end_of_line line last ∷ [] else token in
    either BeginsInside (is_blank b) (cut line 0 (column + 1) last false bytes) rest (cut_begins line 0 (column + 1) last false bytes)
    (either BeginsInside (begins_comment b) (end_of_line line last ∷ []) token refl (of_token l b (b ∷ bytes)))

pub line_begins : (line : ℕ) (bytes : List ℕ) → BeginsInside (line_tokens line bytes)
line_begins line bytes = cut_begins line 0 1 1 false bytes
