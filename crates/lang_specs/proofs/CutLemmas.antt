-- A line that is written of tokens is cut into these tokens.
use Rattle.std.proofs.Common.{◌≡◌, ℕ, suc, ◌+◌, ◌-◌, Bool, true, false, not, ◌&&◌, ◌||◌, if◌then◌else◌, List, [], ◌∷◌, ◌++◌, length, take, refl, sym, ap, ◌∙◌, subst, arith}
use Rattle.std.specs.Prelude.{◌==◌, codes}
use Rattle.std.specs.Bool.{⊤}
use Rattle.std.specs.List.{list_all, list_any}
use Rattle.std.specs.Str.{bytes_eq}
use Rattle.std.proofs.lemmas.Bool.{ne_eqb}
use Rattle.std.proofs.Math.Seq.{take-append_seam}
use Rattle.run_specs.specs.Names.{is_word_byte, begins_as_name, has_name_length, keywords, is_name}
use Rattle.lang_specs.specs.declared.Kind.{Kind}
use Rattle.lang_specs.specs.declared.Kind.TheVariants as kinds
use Rattle.lang_specs.specs.Words.{spelled, word_kind}
use Rattle.lang_specs.specs.Tokens.{Found, is_blank, begins_comment, token_at, end_of_line, placed, behind, cut, line_tokens}
use Rattle.number_specs.specs.Digits.{is_digit}
use Rattle.lang_specs.specs.Marks.{Mark, has_text, lined, statement}
use Rattle.lang_specs.specs.Canonical.{written, is_close_before, is_close_behind, leads, spaced}
use Rattle.lang_specs.proofs.SplitLemmas.{HeadIn, apart, both_left, both_right, head_front}
use Rattle.lang_specs.proofs.WordLemmas.{names_are}
use Rattle.lang_specs.proofs.FrontLemmas.{Begins, IsCalm, Follows, IsFront, IsNumberText, is_keyword, letter_from, digit_from, word_front, sign_is_front, keyword_front, number_front}

-- ---- what can be written

-- the token can be written: a name, a number that a literal may write, a keyword or a sign
abbrev pub IsWritable : Kind → List ℕ → Type 0
IsWritable kinds.Name text = is_name text ≡ true
IsWritable kinds.Number text = IsNumberText text
IsWritable kinds.EndLine text = ⊥
IsWritable kinds.EndText text = ⊥
IsWritable kinds.Other text = ⊥
IsWritable k text = text ≡ []

-- a `-` has a name or a number behind it
abbrev pub IsLed : Kind → List Mark → Type 0
IsLed kinds.Minus ms = HeadIn has_text ms
IsLed k ms = ⊤

-- the tokens can be written one behind the other
abbrev pub AreWritable : List Mark → Type 0
AreWritable [] = ⊤
AreWritable (m ∷ ms) = IsWritable m.kind m.text × IsLed m.kind ms × AreWritable ms

led_front : (k : Kind) (xs ys : List Mark) → IsLed k xs → IsLed k (xs ++ ys)
led_front kinds.Minus xs ys h = head_front has_text xs ys h
led_front k xs ys h = tt

pub writable_append : (xs ys : List Mark) → AreWritable xs → AreWritable ys → AreWritable (xs ++ ys)
writable_append [] ys h k = k
writable_append (x ∷ xs) ys (w, l, g) k = (w, led_front x.kind xs ys l, writable_append xs ys g k)

-- ---- names

-- the parts of a name
pub record IsNameText (text : List ℕ) : Type 0 where
  pub begins : begins_as_name text ≡ true
  pub all : list_all is_word_byte text ≡ true
  pub kind : word_kind text ≡ kinds.Name

not_true : (b : Bool) → not b ≡ true → b ≡ false
not_true true h = sym h
not_true false h = refl

pub name_parts : (text : List ℕ) → is_name text ≡ true → IsNameText text
name_parts text h =
    let front = both_left (has_name_length text && begins_as_name text && list_all is_word_byte text) (not (list_any (bytes_eq text) keywords)) h in
    let word = both_right (has_name_length text && begins_as_name text && list_all is_word_byte text) (not (list_any (bytes_eq text) keywords)) h in
    let begins = both_left (has_name_length text && begins_as_name text) (list_all is_word_byte text) front in record {
      begins = both_right (has_name_length text) (begins_as_name text) begins;
      all = both_right (has_name_length text && begins_as_name text) (list_all is_word_byte text) front;
      kind = (names_are text).1 (not_true (list_any (bytes_eq text) keywords) word);
    }

-- ---- the token at the front

abbrev is_word : Kind → Bool
is_word kinds.Name = true
is_word k = is_keyword k

abbrev pub is_number : Kind → Bool
is_number kinds.Number = true
is_number k = false

abbrev text_of : Kind → List ℕ → List ℕ
text_of k text = if has_text k then text else spelled k

abbrev is_mute : Kind → Bool
is_mute kinds.EndLine = true
is_mute kinds.EndText = true
is_mute kinds.Other = true
is_mute k = false

name_front : (b : Bool) (text rest : List ℕ) → is_name text ≡ true → b ≡ false → IsCalm rest → IsFront b kinds.Name text rest false
name_front b text rest h f c =
    let p = name_parts text h in
    subst (λ z. IsFront z kinds.Name text rest false) (sym f) (word_front kinds.Name text rest p.begins p.all p.kind c)

key_front : (b : Bool) (k : Kind) (rest : List ℕ) → is_keyword k ≡ true → b ≡ false → IsCalm rest → IsFront b k (spelled k) rest false
key_front b k rest h f c = subst (λ z. IsFront z k (spelled k) rest false) (sym f) (keyword_front k rest h c)

pub written_front : (b : Bool) (k : Kind) (text rest : List ℕ) → IsWritable k text → (is_word k ≡ true → b ≡ false) → Follows k rest →
    IsFront b k (text_of k text) rest (is_number k)
written_front b kinds.Name text rest w f c = name_front b text rest w (f refl) c
written_front b kinds.Number text rest w f c = number_front b text rest w c
written_front b kinds.EndLine text rest w f c = absurd w
written_front b kinds.EndText text rest w f c = absurd w
written_front b kinds.Other text rest w f c = absurd w
written_front b kinds.Comma text rest w f c = sign_is_front b kinds.Comma rest refl c
written_front b kinds.Open text rest w f c = sign_is_front b kinds.Open rest refl c
written_front b kinds.Close text rest w f c = sign_is_front b kinds.Close rest refl c
written_front b kinds.AtMost text rest w f c = sign_is_front b kinds.AtMost rest refl c
written_front b kinds.AtLeast text rest w f c = sign_is_front b kinds.AtLeast rest refl c
written_front b kinds.Equal text rest w f c = sign_is_front b kinds.Equal rest refl c
written_front b kinds.Less text rest w f c = sign_is_front b kinds.Less rest refl c
written_front b kinds.Greater text rest w f c = sign_is_front b kinds.Greater rest refl c
written_front b kinds.Plus text rest w f c = sign_is_front b kinds.Plus rest refl c
written_front b kinds.Minus text rest w f c = sign_is_front b kinds.Minus rest refl c
written_front b kinds.Times text rest w f c = sign_is_front b kinds.Times rest refl c
written_front b kinds.Arrow text rest w f c = sign_is_front b kinds.Arrow rest refl c
written_front b k text rest w f c = key_front b k rest refl (f refl) c

-- ---- one token is cut

inside_cut : (line column last : ℕ) (b : Bool) (bytes rest : List ℕ) →
    cut line (length bytes) column last b (bytes ++ rest) ≡ cut line 0 (column + length bytes) last b rest
unfolding cut
inside_cut line column last b [] rest = ap (λ c. cut line 0 c last b rest) (omega arith)
inside_cut line column last b (x ∷ bytes) rest =
    inside_cut line (column + 1) last b bytes rest ∙ ap (λ c. cut line 0 c last b rest) (omega arith)

neither : {A : Type 0} (a b : Bool) (x y z : A) → a ≡ false → b ≡ false → (if a then x else if b then y else z) ≡ z
neither a b x y z h k = ap (λ t. if t then x else if b then y else z) h ∙ ap (λ t. if t then y else z) k

front_cut : (line column last : ℕ) (b : Bool) (x : ℕ) (bytes : List ℕ) → is_blank x ≡ false → begins_comment x ≡ false →
    cut line 0 column last b (x ∷ bytes)
    ≡ placed line column (token_at b x (x ∷ bytes)) (x ∷ bytes)
    ∷ cut line ((token_at b x (x ∷ bytes)).size - 1) (column + 1) (behind column (token_at b x (x ∷ bytes)) x last) (is_digit x) bytes
unfolding cut
front_cut line column last b x bytes h k =
    neither (is_blank x) (begins_comment x) (cut line 0 (column + 1) last false bytes) (end_of_line line last ∷ [])
    (placed line column (token_at b x (x ∷ bytes)) (x ∷ bytes)
    ∷ cut line ((token_at b x (x ∷ bytes)).size - 1) (column + 1) (behind column (token_at b x (x ∷ bytes)) x last) (is_digit x) bytes)
    h k

-- the bytes are cut into these tokens, wherever they stand in the line
abbrev pub AreCut : ℕ → Bool → List ℕ → List Mark → Type 0
AreCut line b bytes ms = (column last : ℕ) → lined (cut line 0 column last b bytes) ≡ statement line ms

-- what a token says where it is written
abbrev seen : Kind → List ℕ → Mark
seen k text = record { kind = k; text = if has_text k then text else [] }

one_cut : (line : ℕ) (b : Bool) (k : Kind) (bytes rest : List ℕ) (d : Bool) (ms : List Mark) → IsFront b k bytes rest d → AreCut line d rest ms →
    AreCut line b (bytes ++ rest) (seen k bytes ∷ ms)
one_cut line b k bytes rest d ms f after column last =
    let found : Found = record { kind = k; size = suc (length f.others) } in
    let whole : List ℕ = f.first ∷ f.others ++ rest in
    let size : suc (length f.others) - 1 ≡ length f.others = omega arith in
    let text : take (suc (length f.others)) whole ≡ bytes = take-append_seam (f.first ∷ f.others) rest ∙ sym f.parts in
    ap (λ z. lined (cut line 0 column last b (z ++ rest))) f.parts
    ∙ ap lined (front_cut line column last b f.first (f.others ++ rest) f.no_blank f.no_comment)
    ∙ ap (λ z. lined (placed line column z whole ∷ cut line (z.size - 1) (column + 1) (behind column z f.first last) (is_digit f.first) (f.others ++ rest))) f.found
    ∙ ap (λ z. record { line = line; mark = seen k z } ∷ lined (cut line (suc (length f.others) - 1) (column + 1) (behind column found f.first last) (is_digit f.first) (f.others ++ rest))) text
    ∙ ap (λ n. record { line = line; mark = seen k bytes } ∷ lined (cut line n (column + 1) (behind column found f.first last) (is_digit f.first) (f.others ++ rest))) size
    ∙ ap (λ z. record { line = line; mark = seen k bytes } ∷ lined z)
    (inside_cut line (column + 1) (behind column found f.first last) (is_digit f.first) f.others rest)
    ∙ ap (λ z. record { line = line; mark = seen k bytes } ∷ lined (cut line 0 (column + 1 + length f.others) (behind column found f.first last) z rest)) f.digit
    ∙ ap (λ z. record { line = line; mark = seen k bytes } ∷ z) (after (column + 1 + length f.others) (behind column found f.first last))

-- ---- what stands behind a token

abbrev gap : Bool → List ℕ
gap close = if close then [] else codes " "

first_calm : (k : Kind) (text rest : List ℕ) → is_close_before k ≡ true → IsCalm (text_of k text ++ rest)
first_calm kinds.Comma text rest h = refl
first_calm kinds.Close text rest h = refl
first_calm kinds.Times text rest h = refl
first_calm k text rest h = apart (sym h)

calm_gap : (b : Bool) (k : Kind) (text rest : List ℕ) → is_close_before k ≡ b → IsCalm (gap b ++ text_of k text ++ rest)
calm_gap true k text rest h = first_calm k text rest h
calm_gap false k text rest h = refl

letter_is_no_arrow : (text rest : List ℕ) → begins_as_name text ≡ true → Begins (λ c. 62 == c) false (text ++ rest)
letter_is_no_arrow [] rest h = apart (sym h)
letter_is_no_arrow (x ∷ text) rest h = let high = letter_from x h in ne_eqb 62 x (λ e. omega arith)

digit_is_no_arrow : (text rest : List ℕ) → IsFront false kinds.Number text [] true → Begins (λ c. 62 == c) false (text ++ rest)
digit_is_no_arrow text rest f =
    let low = digit_from f.first f.digit in
    let no : (62 == f.first) ≡ false = ne_eqb 62 f.first (λ e. omega arith) in
    subst (λ z. Begins (λ c. 62 == c) false (z ++ rest)) (sym f.parts) no

no_arrow : (k : Kind) (text rest : List ℕ) → has_text k ≡ true → IsWritable k text → Begins (λ c. 62 == c) false (text_of k text ++ rest)
no_arrow kinds.Name text rest h w = letter_is_no_arrow text rest (name_parts text w).begins
no_arrow kinds.Number text rest h w = digit_is_no_arrow text rest (number_front false text [] w tt)
no_arrow k text rest h w = apart (sym h)

led_gap : (b : Bool) (k : Kind) (text rest : List ℕ) → has_text k ≡ true → IsWritable k text → Begins (λ c. 62 == c) false (gap b ++ text_of k text ++ rest)
led_gap true k text rest h w = no_arrow k text rest h w
led_gap false k text rest h w = refl

nothing_follows : (k : Kind) → Follows k []
nothing_follows kinds.Minus = tt
nothing_follows kinds.Open = tt
nothing_follows kinds.Times = tt
nothing_follows k = tt

token_follows : (prior k : Kind) (m : Mark) (ms : List Mark) → IsLed k (m ∷ ms) → IsWritable m.kind m.text → Follows k (spaced k (leads prior k) (m ∷ ms))
token_follows prior kinds.Open m ms l w = tt
token_follows prior kinds.Times m ms l w = tt
token_follows prior kinds.Minus m ms l w =
    led_gap (not (has_text prior) || false || is_close_before m.kind) m.kind m.text (spaced m.kind (leads kinds.Minus m.kind) ms) l w
token_follows prior k m ms l w = calm_gap (is_close_before m.kind) m.kind m.text (spaced m.kind (leads k m.kind) ms) refl

follows : (prior k : Kind) (ms : List Mark) → IsLed k ms → AreWritable ms → Follows k (spaced k (leads prior k) ms)
follows prior k [] l g = nothing_follows k
follows prior k (m ∷ ms) l g = token_follows prior k m ms l g.0

-- ---- a line is cut

seen_is : (k : Kind) (text : List ℕ) → IsWritable k text → seen k (text_of k text) ≡ record { kind = k; text = text }
seen_is kinds.Name text w = refl
seen_is kinds.Number text w = refl
seen_is kinds.EndLine text w = absurd w
seen_is kinds.EndText text w = absurd w
seen_is kinds.Other text w = absurd w
seen_is k text w = ap (λ z. record { kind = k; text = z }) (sym w)

-- no word stands directly behind a literal
apart_of : (prior before k : Kind) → (leads prior before || is_close_behind before || is_close_before k) ≡ true → is_word k ≡ true → is_number before ≡ false
apart_of prior kinds.Number kinds.Comma h w = apart (sym w)
apart_of prior kinds.Number kinds.Close h w = apart (sym w)
apart_of prior kinds.Number kinds.Times h w = apart (sym w)
apart_of prior kinds.Number k h w = apart (sym h)
apart_of prior before k h w = refl

gap_cut : (line : ℕ) (prior before : Kind) (m : Mark) (ms : List Mark) (rest : List ℕ) (c : Bool) →
    (leads prior before || is_close_behind before || is_close_before m.kind) ≡ c → IsWritable m.kind m.text → Follows m.kind rest →
    AreCut line (is_number m.kind) rest ms → AreCut line (is_number before) (gap c ++ text_of m.kind m.text ++ rest) (m ∷ ms)
unfolding cut
gap_cut line prior before m ms rest true e w f after =
    let front = written_front (is_number before) m.kind m.text rest w (apart_of prior before m.kind e) f in
    subst (λ z. AreCut line (is_number before) (text_of m.kind m.text ++ rest) (z ∷ ms)) (seen_is m.kind m.text w)
    (one_cut line (is_number before) m.kind (text_of m.kind m.text) rest (is_number m.kind) ms front after)
gap_cut line prior before m ms rest false e w f after =
    λ column last. let front = written_front false m.kind m.text rest w (λ z. refl) f in
    subst (λ z. AreCut line false (text_of m.kind m.text ++ rest) (z ∷ ms)) (seen_is m.kind m.text w)
    (one_cut line false m.kind (text_of m.kind m.text) rest (is_number m.kind) ms front after) (column + 1) last

end_cut : (line : ℕ) (b : Bool) → AreCut line b [] []
unfolding cut
end_cut line b column last = refl

are_cut : (line : ℕ) (prior before : Kind) (ms : List Mark) → IsLed before ms → AreWritable ms →
    AreCut line (is_number before) (spaced before (leads prior before) ms) ms
are_cut line prior before [] l g = end_cut line (is_number before)
are_cut line prior before (m ∷ ms) l (w, k, g) =
    gap_cut line prior before m ms (spaced m.kind (leads before m.kind) ms) (leads prior before || is_close_behind before || is_close_before m.kind) refl w
    (follows before m.kind ms k g) (are_cut line before m.kind ms k g)

none_leads : (k : Kind) → leads kinds.Name k ≡ false
none_leads kinds.Minus = refl
none_leads k = refl

-- a statement without its line feed
abbrev pub line_bytes : List Mark → List ℕ
line_bytes [] = []
line_bytes (m ∷ ms) = written m ++ spaced m.kind false ms

pub line_is_cut : (line : ℕ) (m : Mark) (ms : List Mark) → AreWritable (m ∷ ms) → lined (line_tokens line (line_bytes (m ∷ ms))) ≡ statement line (m ∷ ms)
line_is_cut line m ms (w, l, g) =
    let rest : List ℕ = spaced m.kind (leads kinds.Name m.kind) ms in
    let front = written_front false m.kind m.text rest w (λ z. refl) (follows kinds.Name m.kind ms l g) in
    let whole = one_cut line false m.kind (text_of m.kind m.text) rest (is_number m.kind) ms front (are_cut line kinds.Name m.kind ms l g) 1 1 in
    ap (λ z. lined (line_tokens line (written m ++ spaced m.kind z ms))) (sym (none_leads m.kind)) ∙ whole
    ∙ ap (λ z. statement line (z ∷ ms)) (seen_is m.kind m.text w)
