-- A text that is written line by line has these lines, and the tokens that they were written of.
use Rattle.std.proofs.Common.{◌≡◌, inl, inr, ℕ, ◌+◌, ◌^◌, ◌<◌, ◌≤◌, ℤ, pos, negsuc, Bool, true, false, ◌||◌, if◌then◌else◌, List, [], ◌∷◌, ◌++◌, length, map, refl, sym, ap, ◌∙◌, subst, arith, append_assoc, append-nil}
use Rattle.std.specs.Prelude.{◌==◌, nat_le, codes, decimal}
use Rattle.std.specs.List.{list_all, flat_map}
use Rattle.std.proofs.lemmas.Int.{ints}
use Rattle.std.proofs.lemmas.Bool.{leb-true, ne_eqb}
use Rattle.number_specs.specs.Digits.{is_digit}
use Rattle.number_specs.specs.FractionTexts.{denominator_text, fraction_text}
use Rattle.number_specs.specs.Literals.{IsLiteralNumber}
use Rattle.run_specs.specs.Names.{is_letter, is_word_byte}
use Rattle.lang_specs.specs.declared.Kind.{Kind}
use Rattle.lang_specs.specs.declared.Kind.TheVariants as kinds
use Rattle.lang_specs.specs.Words.{spelled}
use Rattle.lang_specs.specs.Tokens.{Placed, line_tokens}
use Rattle.lang_specs.specs.Lines.{without_return, lines_from, lines_of, unless_bare, tokens_from, text_tokens}
use Rattle.lang_specs.specs.Marks.{Mark, has_text, the, mark, Lined, lined, statement}
use Rattle.lang_specs.specs.Canonical.{written, is_close_before, is_close_behind, leads, spaced, line_text}
use Rattle.lang_specs.proofs.SplitLemmas.{both_left, both_right}
use Rattle.lang_specs.proofs.EachLemmas.{Each}
use Rattle.lang_specs.proofs.FrontLemmas.{IsNumberText, one_or, letter_from, digit_from, decimal_is}
use Rattle.lang_specs.proofs.CutLemmas.{IsWritable, AreWritable, name_parts, line_bytes, line_is_cut}

-- ---- no control byte is written

abbrev pub AreHigh : List ℕ → Type 0
AreHigh bytes = Each (λ b. 32 ≤ b) bytes

high_append : (xs ys : List ℕ) → AreHigh xs → AreHigh ys → AreHigh (xs ++ ys)
high_append [] ys h k = k
high_append (x ∷ xs) ys h k = (h.0, high_append xs ys h.1 k)

high_from : (p : ℕ → Bool) → ((b : ℕ) → p b ≡ true → 32 ≤ b) → (bytes : List ℕ) → list_all p bytes ≡ true → AreHigh bytes
high_from p f [] h = tt
high_from p f (b ∷ bytes) h = (f b (both_left (p b) (list_all p bytes) h), high_from p f bytes (both_right (p b) (list_all p bytes) h))

digit_is_high : (b : ℕ) → is_digit b ≡ true → 32 ≤ b
digit_is_high b h = let range = digit_from b h in omega arith

word_end : (a b : Bool) → b ≡ true → (a || b) ≡ true
word_end true b h = refl
word_end false b h = h

word_is_high : (b : ℕ) → is_word_byte b ≡ true → 32 ≤ b
word_is_high b h =
    elim (one_or (is_letter b || is_digit b) (b == 95) h) [
      | inl e ↦ elim (one_or (is_letter b) (is_digit b) e) [
        | inl f ↦ let g = letter_from b (ap (λ t. t || (b == 95)) f) in omega arith
        | inr f ↦ digit_is_high b f
      ]
      | inr e ↦ let g = letter_from b (word_end (is_letter b) (b == 95) e) in omega arith
    ]

tail_is_high : (p : Bool) (es : List ℕ) → AreHigh es → AreHigh (if p then [] else 47 ∷ es)
tail_is_high true es h = tt
tail_is_high false es h = (omega arith, h)

decimal_is_high : (n : ℕ) → n < 10 ^ 9 → AreHigh (decimal n)
decimal_is_high n h = high_from is_digit digit_is_high (decimal n) (decimal_is n h).all

fraction_is_high : (n d : ℤ) → IsLiteralNumber (record { num = n; den = d }) → AreHigh (fraction_text (record { num = n; den = d }))
fraction_is_high (pos m) (pos d) h =
    high_append (decimal m) (denominator_text d) (decimal_is_high m h.small_num) (tail_is_high (d == 1) (decimal d) (decimal_is_high d h.small_den))
fraction_is_high (pos m) (negsuc d) h = absurd (omega (arith, ints, h.lowest_terms.positive))
fraction_is_high (negsuc n) d h = absurd (omega (arith, ints, h.at_least_zero))

number_is_high : (text : List ℕ) → IsNumberText text → AreHigh text
number_is_high text (v, e, h) = subst AreHigh (sym e) (fraction_is_high v.num v.den h)

all_high : (bytes : List ℕ) → list_all (nat_le 32) bytes ≡ true → AreHigh bytes
all_high bytes h = high_from (nat_le 32) (λ b e. leb-true 32 b e) bytes h

spelled_is_high : (k : Kind) → list_all (nat_le 32) (spelled k) ≡ true
spelled_is_high kinds.Name = refl
spelled_is_high k = refl

written_is_high : (k : Kind) (text : List ℕ) → IsWritable k text → AreHigh (if has_text k then text else spelled k)
written_is_high kinds.Name text w = high_from is_word_byte word_is_high text (name_parts text w).all
written_is_high kinds.Number text w = number_is_high text w
written_is_high k text w = all_high (spelled k) (spelled_is_high k)

gap_is_high : (b : Bool) → AreHigh (if b then [] else codes " ")
gap_is_high true = tt
gap_is_high false = (omega arith, tt)

spaced_is_high : (before : Kind) (leading : Bool) (ms : List Mark) → AreWritable ms → AreHigh (spaced before leading ms)
spaced_is_high before leading [] g = tt
spaced_is_high before leading (m ∷ ms) (w, l, g) =
    let gap : List ℕ = if leading || is_close_behind before || is_close_before m.kind then [] else codes " " in
    let rest : List ℕ = spaced m.kind (leads before m.kind) ms in
    high_append (gap ++ written m) rest
    (high_append gap (written m) (gap_is_high (leading || is_close_behind before || is_close_before m.kind)) (written_is_high m.kind m.text w))
    (spaced_is_high m.kind (leads before m.kind) ms g)

line_is_high : (ms : List Mark) → AreWritable ms → AreHigh (line_bytes ms)
line_is_high [] g = tt
line_is_high (m ∷ ms) (w, l, g) = high_append (written m) (spaced m.kind false ms) (written_is_high m.kind m.text w) (spaced_is_high m.kind false ms g)

-- ---- lines

return_ends : (b : ℕ) → 32 ≤ b → without_return (b ∷ []) ≡ b ∷ []
return_ends b h = ap (λ t. if t then [] else b ∷ []) (ne_eqb b 13 (λ e. omega arith))

without_is : (bytes : List ℕ) → AreHigh bytes → without_return bytes ≡ bytes
without_is [] h = refl
without_is (b ∷ []) h = return_ends b h.0
without_is (b ∷ c ∷ bytes) h = ap (λ z. b ∷ z) (without_is (c ∷ bytes) h.1)

line_ends : (begun bytes rest : List ℕ) → AreHigh bytes → lines_from begun (bytes ++ 10 ∷ rest) ≡ without_return (begun ++ bytes) ∷ lines_from [] rest
unfolding lines_from
line_ends begun [] rest h = ap (λ z. without_return z ∷ lines_from [] rest) (sym (append-nil begun))
line_ends begun (b ∷ bytes) rest h =
    ap (λ t. if t then without_return begun ∷ lines_from [] (bytes ++ 10 ∷ rest) else lines_from (begun ++ b ∷ []) (bytes ++ 10 ∷ rest))
    (ne_eqb b 10 (λ e. let low : 32 ≤ b = h.0 in omega arith))
    ∙ line_ends (begun ++ b ∷ []) bytes rest h.1
    ∙ ap (λ z. without_return z ∷ lines_from [] rest) (append_assoc begun (b ∷ []) bytes)

-- a line that can be written; it has a token
abbrev pub IsLine : List Mark → Type 0
IsLine [] = ⊥
IsLine (m ∷ ms) = AreWritable (m ∷ ms)

line_text_is : (ms : List Mark) → line_text ms ≡ line_bytes ms ++ codes "\n"
line_text_is [] = refl
line_text_is (m ∷ ms) = refl

line_writable : (ms : List Mark) → IsLine ms → AreWritable ms
line_writable [] h = absurd h
line_writable (m ∷ ms) h = h

lines_are : (lines : List (List Mark)) → Each IsLine lines → lines_of (flat_map line_text lines) ≡ map line_bytes lines
unfolding lines_from
lines_are [] h = refl
lines_are (ms ∷ lines) h =
    let high = line_is_high ms (line_writable ms h.0) in
    let rest : List ℕ = flat_map line_text lines in
    ap (λ z. lines_from [] (z ++ rest)) (line_text_is ms)
    ∙ ap (lines_from []) (append_assoc (line_bytes ms) (codes "\n") rest)
    ∙ line_ends [] (line_bytes ms) rest high
    ∙ ap (λ z. z ∷ lines_from [] rest) (without_is (line_bytes ms) high)
    ∙ ap (λ z. line_bytes ms ∷ z) (lines_are lines h.1)

-- ---- tokens

-- statements, one in each line from this one on
abbrev pub numbered : ℕ → List (List Mark) → List Lined
numbered line [] = []
numbered line (ms ∷ lines) = statement line ms ++ numbered (line + 1) lines

pub lined_append : (xs ys : List Placed) → lined (xs ++ ys) ≡ lined xs ++ lined ys
lined_append [] ys = refl
lined_append (x ∷ xs) ys = ap (λ z. record { line = x.line; mark = mark x } ∷ z) (lined_append xs ys)

not_bare : (ts : List Placed) (x y : Lined) (rest : List Lined) → lined ts ≡ x ∷ y ∷ rest → unless_bare ts ≡ ts
not_bare [] x y rest e = refl
not_bare (t ∷ []) x y rest e = absurd (let f : ⊥ = cc in f)
not_bare (t ∷ u ∷ ts) x y rest e = refl

two_or_more : (line : ℕ) (m : Mark) (ms : List Mark) (ts : List Placed) → lined ts ≡ statement line (m ∷ ms) → unless_bare ts ≡ ts
two_or_more line m [] ts e = not_bare ts (record { line = line; mark = m }) (record { line = line; mark = the kinds.EndLine }) [] e
two_or_more line m (n ∷ ms) ts e = not_bare ts (record { line = line; mark = m }) (record { line = line; mark = n }) (statement line ms) e

line_tokens_are : (line : ℕ) (ms : List Mark) → IsLine ms → lined (unless_bare (line_tokens line (line_bytes ms))) ≡ statement line ms
line_tokens_are line [] h = absurd h
line_tokens_are line (m ∷ ms) h =
    let e = line_is_cut line m ms h in
    ap lined (two_or_more line m ms (line_tokens line (line_bytes (m ∷ ms))) e) ∙ e

tokens_are : (line : ℕ) (lines : List (List Mark)) → Each IsLine lines →
    lined (tokens_from line (map line_bytes lines)) ≡ numbered line lines ++ record { line = line + length lines; mark = the kinds.EndText } ∷ []
tokens_are line [] h = ap (λ n. record { line = n; mark = the kinds.EndText } ∷ []) (omega arith)
tokens_are line (ms ∷ lines) h =
    let others : List Placed = tokens_from (line + 1) (map line_bytes lines) in
    let last : line + 1 + length lines ≡ line + length (ms ∷ lines) = omega arith in
    lined_append (unless_bare (line_tokens line (line_bytes ms))) others
    ∙ ap (λ z. z ++ lined others) (line_tokens_are line ms h.0)
    ∙ ap (λ z. statement line ms ++ z) (tokens_are (line + 1) lines h.1)
    ∙ sym (append_assoc (statement line ms) (numbered (line + 1) lines) (record { line = line + 1 + length lines; mark = the kinds.EndText } ∷ []))
    ∙ ap (λ n. (statement line ms ++ numbered (line + 1) lines) ++ record { line = n; mark = the kinds.EndText } ∷ []) last

pub text_is_cut : (lines : List (List Mark)) → Each IsLine lines →
    lined (text_tokens (flat_map line_text lines)) ≡ numbered 1 lines ++ record { line = 1 + length lines; mark = the kinds.EndText } ∷ []
text_is_cut lines h = ap (λ z. lined (tokens_from 1 z)) (lines_are lines h) ∙ tokens_are 1 lines h
