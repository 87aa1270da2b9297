-- The tokens of a line stand in it, and its end is the last of them.
use Rattle.std.proofs.Common.{◌≡◌, ℕ, zero, suc, ◌+◌, ◌-◌, Bool, true, false, not, if◌then◌else◌, List, [], ◌∷◌, Option, Some, Result, Ok, Err, refl, sym}
use Rattle.std.specs.Prelude.{◌==◌, take, bytes_eq}
use Rattle.std.specs.List.{find, list_all, starts_with}
use Rattle.std.specs.Option.{unwrap_or}
use Rattle.poly_specs.specs.Fractions.{Fraction}
use Rattle.number_specs.specs.Digits.{is_digit}
use Rattle.number_specs.specs.Literals.{read_literal}
use Rattle.number_specs.specs.declared.NumFault.{NumFault}
use Rattle.number_specs.specs.declared.NumFault.TheVariants.{Form, Range}
use Rattle.lang_specs.specs.declared.Kind.{Kind}
use Rattle.lang_specs.specs.declared.Kind.TheVariants.{Name, Other}
use Rattle.lang_specs.specs.Words.{spelled, keyword_kinds, sign_kinds, word_kind}
use Rattle.lang_specs.specs.Tokens.{Placed, Found, is_blank, begins_comment, begins_word, word_len, literal_len, kind_of_literal, word_at, literal_at, sign_at, token_at, end_of_line, placed, behind, cut, line_tokens}
use Rattle.lang_specs.specs.Marks.{Mark, mark}
use Rattle.lang_specs.proofs.SplitLemmas.{both_left, both_right}
use Rattle.lang_order.specs.Beginnings.{is_line_end, IsOneLine}
use Rattle.lang_order.specs.FaultsByLines.{marks, StandIn}

-- what holds of both branches
either : {A : Type 0} (P : A → Type 0) (b : Bool) (x y : A) → P x → P y → P (if b then x else y)
either P true x y h k = h
either P false x y h k = k

-- ---- kinds of tokens

not_true : (b : Bool) → not b ≡ true → b ≡ false
not_true true e = sym e
not_true false e = refl

found_one : (same : Bool) (k d : Kind) (o : Option Kind) → not (is_line_end k) ≡ true → is_line_end (unwrap_or o d) ≡ false →
    is_line_end (unwrap_or (if same then Some k else o) d) ≡ false
found_one true k d o h g = not_true (is_line_end k) h
found_one false k d o h g = g

found_in : (p : Kind → Bool) (ks : List Kind) (d : Kind) → list_all (λ k. not (is_line_end k)) ks ≡ true → is_line_end d ≡ false →
    is_line_end (unwrap_or (find p ks) d) ≡ false
found_in p [] d h g = g
found_in p (k ∷ ks) d h g =
    let first = both_left (not (is_line_end k)) (list_all (λ z. not (is_line_end z)) ks) h in
    let others = found_in p ks d (both_right (not (is_line_end k)) (list_all (λ z. not (is_line_end z)) ks) h) g in
    found_one (p k) k d (find p ks) first others

of_literal : (r : Result Fraction NumFault) → is_line_end (kind_of_literal r) ≡ false
of_literal (Ok v) = refl
of_literal (Err Range) = refl
of_literal (Err Form) = refl

abbrev FoundInside : Found → Type 0
FoundInside f = is_line_end f.kind ≡ false

of_word : (behind_literal : Bool) (bytes : List ℕ) → FoundInside (word_at behind_literal bytes)
of_word b bytes =
    either (λ k. is_line_end k ≡ false) b Other (word_kind (take (word_len bytes) bytes)) refl
    (found_in (λ k. bytes_eq (take (word_len bytes) bytes) (spelled k)) keyword_kinds Name refl refl)

of_sign : (bytes : List ℕ) → FoundInside (sign_at bytes)
of_sign bytes = found_in (λ k. starts_with (λ a b. a == b) bytes (spelled k)) sign_kinds Other refl refl

of_token : (behind_literal : Bool) (b : ℕ) (bytes : List ℕ) → FoundInside (token_at behind_literal b bytes)
of_token l b bytes =
    either FoundInside (begins_word b) (word_at l bytes) (if is_digit b then literal_at bytes else sign_at bytes) (of_word l bytes)
    (either FoundInside (is_digit b) (literal_at bytes) (sign_at bytes) (of_literal (read_literal (take (literal_len bytes) bytes))) (of_sign bytes))

-- ---- tokens

abbrev IsLineOfTokens : ℕ → List Placed → Type 0
IsLineOfTokens line ts = StandIn line ts × IsOneLine (marks ts)

one_more : (m : Mark) (ms : List Mark) → is_line_end m.kind ≡ false → IsOneLine ms → IsOneLine (m ∷ ms)
one_more m [] h o = tt
one_more m (n ∷ ms) h o = (h, o)

cut_is : (line inside column last : ℕ) (l : Bool) (bytes : List ℕ) → IsLineOfTokens line (cut line inside column last l bytes)
unfolding cut
cut_is line inside column last l [] = ((refl, tt), tt)
cut_is line (suc inside) column last l (b ∷ bytes) = cut_is line inside (column + 1) last l bytes
cut_is line zero column last l (b ∷ bytes) =
    let found = token_at l b (b ∷ bytes) in
    let others = cut_is line (found.size - 1) (column + 1) (behind column found b last) (is_digit b) bytes in
    let token : List Placed = placed line column found (b ∷ bytes) ∷ cut line (found.size - 1) (column + 1) (behind column found b last) (is_digit b) bytes in
    let rest : List Placed = if begins_comment b then end_of_line line last ∷ [] else token in
    either (IsLineOfTokens line) (is_blank b) (cut line 0 (column + 1) last false bytes) rest (cut_is line 0 (column + 1) last false bytes)
    (either (IsLineOfTokens line) (begins_comment b) (end_of_line line last ∷ []) token ((refl, tt), tt) (
      (refl, others.0),
      one_more (mark (placed line column found (b ∷ bytes)))
          (marks (cut line (found.size - 1) (column + 1) (behind column found b last) (is_digit b) bytes)) (of_token l b (b ∷ bytes)) others.1,
    ))

pub line_is : (line : ℕ) (bytes : List ℕ) → StandIn line (line_tokens line bytes) × IsOneLine (marks (line_tokens line bytes))
line_is line bytes = cut_is line 0 1 1 false bytes
