-- The names of a text are names: a letter or `_`, then letters, digits and `_`, at most 32 bytes, and no keyword.
use Rattle.std.proofs.Common.{◌≡◌, ℕ, suc, zero, ◌+◌, Bool, true, false, ◌&&◌, ◌||◌, not, if◌then◌else◌, List, [], ◌∷◌, ◌++◌, length, take, Option, Some, Result, Ok, Err, refl, sym, arith}
use Rattle.std.specs.Prelude.{◌==◌, ⊤, bytes_eq, nat_le}
use Rattle.std.specs.List.{find, list_all, list_any, prefix_len, starts_with}
use Rattle.std.specs.Option.{unwrap_or}
use Rattle.std.proofs.lemmas.Bool.{le-leb}
use Rattle.poly_specs.specs.Fractions.{Fraction}
use Rattle.number_specs.specs.Digits.{is_digit}
use Rattle.number_specs.specs.Literals.{read_literal}
use Rattle.number_specs.specs.declared.NumFault.{NumFault}
use Rattle.number_specs.specs.declared.NumFault.TheVariants.{Form, Range}
use Rattle.run_specs.specs.Names.{is_word_byte, begins_as_name, keywords, is_name}
use Rattle.lang_specs.specs.declared.Kind.{Kind}
use Rattle.lang_specs.specs.declared.Kind.TheVariants.{Name, Number, Other}
use Rattle.lang_specs.specs.Words.{spelled, word_kind, sign_kind, sign_kinds}
use Rattle.lang_specs.specs.Tokens.{Placed, begins_word, begins_comment, is_blank, word_len, literal_len, kind_of_literal, Found, word_at, literal_at, sign_at, token_at, cut, line_tokens}
use Rattle.lang_specs.specs.Lines.{lines_of, unless_bare, tokens_from, text_tokens}
use Rattle.lang_specs.specs.Marks.{Lined, has_text, lined}
use Rattle.lang_specs.specs.Limits.{is_in_range, has_few_bytes, has_few_digits}
use Rattle.lang_specs.proofs.SplitLemmas.{apart, both_left, both_right}
use Rattle.lang_specs.proofs.WordLemmas.{names_are}

-- ---- words

-- a name but for its length
abbrev is_word_name : List ℕ → Bool
is_word_name text = begins_as_name text && list_all is_word_byte text && not (list_any (bytes_eq text) keywords)

-- where the token is a name, its text is one but for its length
abbrev IsWord : Kind → List ℕ → Type 0
IsWord Name text = is_word_name text ≡ true
IsWord k text = ⊤

word_of : (k : Kind) (text : List ℕ) → (k ≡ Name → is_word_name text ≡ true) → IsWord k text
word_of Name text h = h refl
word_of k text h = tt

three_hold : (a b c : Bool) → a ≡ true → b ≡ true → c ≡ false → (a && b && not c) ≡ true
three_hold a b c e f g = rw (e, f, g) refl

front_passes : (p : ℕ → Bool) (w : Bool) (b n : ℕ) (bytes : List ℕ) → w ≡ p b → list_all p (take n bytes) ≡ true →
    list_all p (take (if w then 1 + n else 0) (b ∷ bytes)) ≡ true
front_passes p true b n bytes e h = let f : 1 + n ≡ suc n = omega arith in rw (f, ← e) h
front_passes p false b n bytes e h = refl

all_front : (p : ℕ → Bool) (bytes : List ℕ) → list_all p (take (prefix_len p bytes) bytes) ≡ true
all_front p [] = refl
all_front p (b ∷ bytes) = front_passes p (p b) b (prefix_len p bytes) bytes refl (all_front p bytes)

begins_front : (w : Bool) (b n : ℕ) (bytes : List ℕ) → w ≡ true → begins_word b ≡ true → begins_as_name (take (if w then 1 + n else 0) (b ∷ bytes)) ≡ true
begins_front true b n bytes e h = let f : 1 + n ≡ suc n = omega arith in rw f h
begins_front false b n bytes e h = apart (sym e)

word_byte : (l d u : Bool) → (l || u) ≡ true → (l || d || u) ≡ true
word_byte true d u e = refl
word_byte false true u e = refl
word_byte false false u e = e

-- a word that begins as one, as a name
word_is : (b : ℕ) (bytes : List ℕ) → begins_word b ≡ true → list_any (bytes_eq (take (word_len (b ∷ bytes)) (b ∷ bytes))) keywords ≡ false →
    is_word_name (take (word_len (b ∷ bytes)) (b ∷ bytes)) ≡ true
word_is b bytes h k =
    three_hold _ _ _ (begins_front (is_word_byte b) b (word_len bytes) bytes (word_byte _ (is_digit b) _ h) h) (all_front is_word_byte (b ∷ bytes)) k

-- ---- tokens

word_found : (behind : Bool) (b : ℕ) (bytes : List ℕ) → begins_word b ≡ true →
    IsWord (word_at behind (b ∷ bytes)).kind (take (word_len (b ∷ bytes)) (b ∷ bytes))
word_found true b bytes h = tt
word_found false b bytes h =
    word_of (word_kind (take (word_len (b ∷ bytes)) (b ∷ bytes))) (take (word_len (b ∷ bytes)) (b ∷ bytes))
    (λ e. word_is b bytes h ((names_are (take (word_len (b ∷ bytes)) (b ∷ bytes))).0 e))

literal_found : (r : Result Fraction NumFault) (text : List ℕ) → IsWord (kind_of_literal r) text
literal_found (Ok v) text = tt
literal_found (Err Range) text = tt
literal_found (Err Form) text = tt

abbrev is_no_name : Kind → Bool
is_no_name Name = false
is_no_name k = true

no_word : (k : Kind) (text : List ℕ) → is_no_name k ≡ true → IsWord k text
no_word Name text e = apart (sym e)
no_word k text e = tt

first_or : (b : Bool) (k : Kind) (others : Option Kind) → is_no_name k ≡ true → is_no_name (unwrap_or others Other) ≡ true →
    is_no_name (unwrap_or (if b then Some k else others) Other) ≡ true
first_or true k others h i = h
first_or false k others h i = i

found_none : (p : Kind → Bool) (ks : List Kind) → list_all is_no_name ks ≡ true → is_no_name (unwrap_or (find p ks) Other) ≡ true
found_none p [] h = refl
found_none p (k ∷ ks) h =
    first_or (p k) k (find p ks) (both_left (is_no_name k) (list_all is_no_name ks) h) (found_none p ks (both_right (is_no_name k) (list_all is_no_name ks) h))

no_sign : (bytes : List ℕ) → is_no_name (sign_kind bytes) ≡ true
no_sign bytes = found_none (λ k. starts_with (λ a b. a == b) bytes (spelled k)) sign_kinds refl

found_is : (w d behind : Bool) (b : ℕ) (bytes : List ℕ) → begins_word b ≡ w → (found : Found) →
    found ≡ (if w then word_at behind (b ∷ bytes) else if d then literal_at (b ∷ bytes) else sign_at (b ∷ bytes)) →
    IsWord found.kind (take found.size (b ∷ bytes))
found_is true d behind b bytes h found e = rw e (word_found behind b bytes h)
found_is false true behind b bytes h found e = rw e (literal_found (read_literal (take (literal_len (b ∷ bytes)) (b ∷ bytes))) (take (literal_len (b ∷ bytes)) (b ∷ bytes)))
found_is false false behind b bytes h found e =
    rw e (no_word (sign_kind (b ∷ bytes)) (take (sign_at (b ∷ bytes)).size (b ∷ bytes)) (no_sign (b ∷ bytes)))

-- ---- lines

abbrev AreWords : List Placed → Type 0
AreWords [] = ⊤
AreWords (t ∷ ts) = IsWord t.kind t.text × AreWords ts

one_of_three : (a b : Bool) (xs ys zs : List Placed) → AreWords xs → AreWords ys → AreWords zs → AreWords (if a then xs else if b then ys else zs)
one_of_three true b xs ys zs h i j = h
one_of_three false true xs ys zs h i j = i
one_of_three false false xs ys zs h i j = j

cut_words : (line inside column last : ℕ) (behind : Bool) (bytes : List ℕ) → AreWords (cut line inside column last behind bytes)
unfolding cut
cut_words line inside column last behind [] = (tt, tt)
cut_words line (suc inside) column last behind (b ∷ bytes) = cut_words line inside (column + 1) last behind bytes
cut_words line zero column last behind (b ∷ bytes) =
    one_of_three (is_blank b) (begins_comment b) _ _ _ (cut_words line 0 (column + 1) last false bytes) (tt, tt)
    (found_is (begins_word b) (is_digit b) behind b bytes refl (token_at behind b (b ∷ bytes)) refl, cut_words line _ (column + 1) _ (is_digit b) bytes)

bare_words : (ts : List Placed) → AreWords ts → AreWords (unless_bare ts)
bare_words [] h = tt
bare_words (t ∷ []) h = tt
bare_words (t ∷ u ∷ ts) h = h

words_append : (xs ys : List Placed) → AreWords xs → AreWords ys → AreWords (xs ++ ys)
words_append [] ys h k = k
words_append (x ∷ xs) ys h k = (h.0, words_append xs ys h.1 k)

lines_words : (line : ℕ) (ls : List (List ℕ)) → AreWords (tokens_from line ls)
lines_words line [] = (tt, tt)
lines_words line (l ∷ ls) = words_append (unless_bare (line_tokens line l)) (tokens_from (line + 1) ls)
    (bare_words (line_tokens line l) (cut_words line 0 1 1 false l)) (lines_words (line + 1) ls)

-- ---- what is said of names and literals

-- a name is one, and a literal has few enough digits
abbrev pub IsGood : Kind → List ℕ → Type 0
IsGood Name text = is_name text ≡ true
IsGood Number text = is_in_range (read_literal text) ≡ true
IsGood k text = ⊤

abbrev pub AreGood : List Lined → Type 0
AreGood [] = ⊤
AreGood (l ∷ ls) = IsGood l.mark.kind l.mark.text × AreGood ls

name_is : (text : List ℕ) → is_word_name text ≡ true → nat_le (length text) 32 ≡ true → is_name text ≡ true
name_is [] h few = apart (sym h)
name_is (b ∷ bytes) h few = let some : nat_le 1 (length (b ∷ bytes)) ≡ true = le-leb 1 (length (b ∷ bytes)) (omega arith) in rw (some, few) h

good_mark : (k : Kind) (text : List ℕ) → IsWord k text → has_few_bytes k (if has_text k then text else []) ≡ true →
    has_few_digits k (if has_text k then text else []) ≡ true → IsGood k (if has_text k then text else [])
good_mark Name text h few digits = name_is text h few
good_mark Number text h few digits = digits
good_mark k text h few digits = tt

good_lined : (ts : List Placed) → AreWords ts → list_all (λ l. has_few_bytes l.mark.kind l.mark.text) (lined ts) ≡ true →
    list_all (λ l. has_few_digits l.mark.kind l.mark.text) (lined ts) ≡ true → AreGood (lined ts)
good_lined [] h few digits = tt
good_lined (t ∷ ts) h few digits = (good_mark t.kind t.text h.0 (both_left _ _ few) (both_left _ _ digits), good_lined ts h.1 (both_right _ _ few) (both_right _ _ digits))

pub good_text : (text : List ℕ) → list_all (λ l. has_few_bytes l.mark.kind l.mark.text) (lined (text_tokens text)) ≡ true →
    list_all (λ l. has_few_digits l.mark.kind l.mark.text) (lined (text_tokens text)) ≡ true → AreGood (lined (text_tokens text))
good_text text few digits = good_lined (text_tokens text) (lines_words 1 (lines_of text)) few digits
