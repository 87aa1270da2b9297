-- The names and literals among the tokens of a text, where no limit is passed.
use Rattle.std.proofs.Common.{◌≡◌, ℕ, zero, suc, ◌+◌, ◌-◌, Bool, true, false, not, ◌&&◌, ◌||◌, if◌then◌else◌, List, [], ◌∷◌, length, take, Some, Result, Ok, Err, refl, sym, ap, subst, arith}
use Rattle.std.specs.Prelude.{◌==◌, nat_le, cond}
use Rattle.std.specs.Bool.{⊤}
use Rattle.std.specs.List.{list_all, list_any, find, prefix_len, starts_with}
use Rattle.std.specs.Option.{unwrap_or}
use Rattle.std.specs.Str.{bytes_eq}
use Rattle.std.proofs.lemmas.Bool.{le-leb}
use Rattle.poly_specs.specs.Fractions.{Fraction}
use Rattle.number_specs.specs.Digits.{is_digit}
use Rattle.number_specs.specs.Literals.{read_literal}
use Rattle.number_specs.specs.declared.NumFault.{NumFault}
use Rattle.number_specs.specs.declared.NumFault.TheVariants.{Form, Range}
use Rattle.run_specs.specs.Names.{is_letter, is_word_byte, begins_as_name, has_name_length, keywords, is_name}
use Rattle.lang_specs.specs.declared.Kind.{Kind}
use Rattle.lang_specs.specs.declared.Kind.TheVariants as kinds
use Rattle.lang_specs.specs.declared.Which.{Which}
use Rattle.lang_specs.specs.declared.Which.TheVariants.{NameBytes, Digits}
use Rattle.lang_specs.specs.Words.{spelled, word_kind, sign_kinds, sign_kind}
use Rattle.lang_specs.specs.Tokens.{Placed, Found, is_blank, begins_comment, begins_word, word_len, literal_len, kind_of_literal, word_at, literal_at, sign_at, token_at, end_of_line, placed, behind, cut, line_tokens}
use Rattle.lang_specs.specs.Lines.{unless_bare, tokens_from, lines_of, text_tokens}
use Rattle.lang_specs.specs.Marks.{has_text, Lined, lined}
use Rattle.lang_specs.specs.Trees.{Tree}
use Rattle.lang_specs.specs.Limits.{has_at_most, has_few_bytes, is_in_range, has_few_digits, Keeps}
use Rattle.lang_specs.proofs.SplitLemmas.{apart}
use Rattle.lang_specs.proofs.WordLemmas.{names_are}
use Rattle.lang_specs.proofs.EachLemmas.{Each, each_append, each_of_all, both}
use Rattle.lang_specs.proofs.CutLemmas.{IsNameText}

-- ---- names that are cut

-- what is known of a token's bytes by its kind
abbrev IsCutAs : Kind → List ℕ → Type 0
IsCutAs kinds.Name text = IsNameText text
IsCutAs k text = ⊤

next_is : (n : ℕ) → suc n ≡ 1 + n
next_is n = omega arith

one_passes : (p : ℕ → Bool) (b n : ℕ) (bytes : List ℕ) (t : Bool) → p b ≡ t → list_all p (take n bytes) ≡ true →
    list_all p (take (cond t (1 + n) 0) (b ∷ bytes)) ≡ true
one_passes p b n bytes false e h = refl
one_passes p b n bytes true e h =
    subst (λ z. list_all p (take z (b ∷ bytes)) ≡ true) (next_is n) (both (p b) (list_all p (take n bytes)) e h)

front_passes : (p : ℕ → Bool) (bytes : List ℕ) → list_all p (take (prefix_len p bytes) bytes) ≡ true
front_passes p [] = refl
front_passes p (b ∷ bytes) = one_passes p b (prefix_len p bytes) bytes (p b) refl (front_passes p bytes)

word_byte : (b : ℕ) → begins_word b ≡ true → is_word_byte b ≡ true
word_byte b h = word_of (is_letter b) (is_digit b) (b == 95) h where
  word_of : (l d u : Bool) → (l || u) ≡ true → (l || d || u) ≡ true
  word_of true d u e = refl
  word_of false true u e = refl
  word_of false false u e = e

begins_so : (n b : ℕ) (bytes : List ℕ) (t : Bool) → t ≡ true → begins_word b ≡ true → begins_as_name (take (cond t (1 + n) 0) (b ∷ bytes)) ≡ true
begins_so n b bytes true e h = subst (λ z. begins_as_name (take z (b ∷ bytes)) ≡ true) (next_is n) h
begins_so n b bytes false e h = apart (sym e)

word_is : (k : Kind) (w : List ℕ) → begins_as_name w ≡ true → list_all is_word_byte w ≡ true → word_kind w ≡ k → IsCutAs k w
word_is kinds.Name w b a e = record { begins = b; all = a; kind = e }
word_is k w b a e = tt

word_cut : (behind_literal : Bool) (b : ℕ) (bytes : List ℕ) → begins_word b ≡ true →
    IsCutAs (word_at behind_literal (b ∷ bytes)).kind (take (word_at behind_literal (b ∷ bytes)).size (b ∷ bytes))
word_cut true b bytes h = tt
word_cut false b bytes h =
    let w : List ℕ = take (word_len (b ∷ bytes)) (b ∷ bytes) in
    word_is (word_kind w) w (begins_so (prefix_len is_word_byte bytes) b bytes (is_word_byte b) (word_byte b h) h)
    (front_passes is_word_byte (b ∷ bytes)) refl

literal_cut : (r : Result Fraction NumFault) (text : List ℕ) → IsCutAs (kind_of_literal r) text
literal_cut (Ok v) text = tt
literal_cut (Err Range) text = tt
literal_cut (Err Form) text = tt

found_has : (P : Kind → Type 0) (test : Kind → Bool) (ks : List Kind) → Each P ks → P kinds.Other → P (unwrap_or (find test ks) kinds.Other)
found_has P test [] h k = k
found_has P test (x ∷ xs) h k = one_has (test x) h.0 (found_has P test xs h.1 k) where
  one_has : (t : Bool) → P x → P (unwrap_or (find test xs) kinds.Other) → P (unwrap_or (cond t (Some x) (find test xs)) kinds.Other)
  one_has true a b = a
  one_has false a b = b

sign_cut : (bytes text : List ℕ) → IsCutAs (sign_kind bytes) text
sign_cut bytes text =
    found_has (λ k. IsCutAs k text) (λ k. starts_with (λ a b. a == b) bytes (spelled k)) sign_kinds
    (tt, (tt, (tt, (tt, (tt, (tt, (tt, (tt, (tt, (tt, (tt, (tt, tt)))))))))))) tt

found_cut : (behind_literal w d : Bool) (x : ℕ) (bytes : List ℕ) → begins_word x ≡ w →
    let found = if w then word_at behind_literal (x ∷ bytes) else if d then literal_at (x ∷ bytes) else sign_at (x ∷ bytes) in
    IsCutAs found.kind (take found.size (x ∷ bytes))
found_cut behind_literal true d x bytes h = word_cut behind_literal x bytes h
found_cut behind_literal false true x bytes h =
    literal_cut (read_literal (take (literal_len (x ∷ bytes)) (x ∷ bytes))) (take (literal_len (x ∷ bytes)) (x ∷ bytes))
found_cut behind_literal false false x bytes h = sign_cut (x ∷ bytes) (take (sign_at (x ∷ bytes)).size (x ∷ bytes))

-- ---- the tokens of a text

abbrev AreCutAs : List Placed → Type 0
AreCutAs ts = Each (λ t. IsCutAs t.kind t.text) ts

one_of_three : (a b : Bool) (x y z : List Placed) → AreCutAs x → AreCutAs y → AreCutAs z → AreCutAs (if a then x else if b then y else z)
one_of_three true b x y z h k l = h
one_of_three false true x y z h k l = k
one_of_three false false x y z h k l = l

line_cut : (line inside column last : ℕ) (b : Bool) (bytes : List ℕ) → AreCutAs (cut line inside column last b bytes)
unfolding cut
line_cut line inside column last b [] = (tt, tt)
line_cut line (suc inside) column last b (x ∷ bytes) = line_cut line inside (column + 1) last b bytes
line_cut line zero column last b (x ∷ bytes) =
    let found : Found = token_at b x (x ∷ bytes) in
    one_of_three (is_blank x) (begins_comment x) (cut line 0 (column + 1) last false bytes) (end_of_line line last ∷ [])
    (placed line column found (x ∷ bytes) ∷ cut line (found.size - 1) (column + 1) (behind column found x last) (is_digit x) bytes)
    (line_cut line 0 (column + 1) last false bytes) (tt, tt)
    (found_cut b (begins_word x) (is_digit x) x bytes refl, line_cut line (found.size - 1) (column + 1) (behind column found x last) (is_digit x) bytes)

bare_cut : (ts : List Placed) → AreCutAs ts → AreCutAs (unless_bare ts)
bare_cut [] h = tt
bare_cut (t ∷ []) h = tt
bare_cut (t ∷ u ∷ ts) h = h

lines_cut : (line : ℕ) (ls : List (List ℕ)) → AreCutAs (tokens_from line ls)
lines_cut line [] = (tt, tt)
lines_cut line (l ∷ ls) =
    each_append (λ t. IsCutAs t.kind t.text) (unless_bare (line_tokens line l)) (tokens_from (line + 1) ls)
    (bare_cut (line_tokens line l) (line_cut line 0 1 1 false l)) (lines_cut (line + 1) ls)

-- ---- names and literals within the limits

-- a name is one, and a literal has few digits
abbrev pub IsSound : Kind → List ℕ → Type 0
IsSound kinds.Name text = is_name text ≡ true
IsSound kinds.Number text = is_in_range (read_literal text) ≡ true
IsSound k text = ⊤

has_one : (text : List ℕ) → begins_as_name text ≡ true → nat_le 1 (length text) ≡ true
has_one [] h = h
has_one (b ∷ text) h = le-leb 1 (suc (length text)) (omega arith)

no_keyword : (b : Bool) → b ≡ false → not b ≡ true
no_keyword b e = ap not e

name_is : (text : List ℕ) → IsNameText text → has_at_most 32 text ≡ true → is_name text ≡ true
name_is text p few =
    both (has_name_length text && begins_as_name text && list_all is_word_byte text) (not (list_any (bytes_eq text) keywords))
    (both (has_name_length text && begins_as_name text) (list_all is_word_byte text)
    (both (has_name_length text) (begins_as_name text) (both (nat_le 1 (length text)) (nat_le (length text) 32) (has_one text p.begins) few) p.begins) p.all)
    (no_keyword (list_any (bytes_eq text) keywords) ((names_are text).0 p.kind))

sound_is : (k : Kind) (text : List ℕ) → IsCutAs k text → has_few_bytes k (if has_text k then text else []) ≡ true →
    has_few_digits k (if has_text k then text else []) ≡ true → IsSound k (if has_text k then text else [])
sound_is kinds.Name text c few read = name_is text c few
sound_is kinds.Number text c few read = read
sound_is k text c few read = tt

sound_tokens : (ts : List Placed) → AreCutAs ts → Each (λ l. has_few_bytes l.mark.kind l.mark.text ≡ true) (lined ts) →
    Each (λ l. has_few_digits l.mark.kind l.mark.text ≡ true) (lined ts) → Each (λ l. IsSound l.mark.kind l.mark.text) (lined ts)
sound_tokens [] c few read = tt
sound_tokens (t ∷ ts) c few read = (sound_is t.kind t.text c.0 few.0 read.0, sound_tokens ts c.1 few.1 read.1)

-- each name of a text within the limits is one, and each literal is read
pub text_is_sound : (text : List ℕ) (trees : List Tree) → ((which : Which) → Keeps which (lined (text_tokens text)) trees) →
    Each (λ l. IsSound l.mark.kind l.mark.text) (lined (text_tokens text))
text_is_sound text trees kept =
    let ls : List Lined = lined (text_tokens text) in
    sound_tokens (text_tokens text) (lines_cut 1 (lines_of text))
    (each_of_all (λ (l : Lined). has_few_bytes l.mark.kind l.mark.text) ls (kept NameBytes))
    (each_of_all (λ (l : Lined). has_few_digits l.mark.kind l.mark.text) ls (kept Digits))
