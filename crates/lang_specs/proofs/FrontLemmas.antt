-- The token at the front of bytes that were written for it.
use Rattle.std.proofs.Common.{◌≡◌, ◌⊎◌, inl, inr, ℕ, suc, ◌+◌, ◌^◌, ◌<◌, ◌≤◌, ℤ, pos, negsuc, Bool, true, false, cond, not, ◌&&◌, ◌||◌, if◌then◌else◌, List, [], ◌∷◌, ◌++◌, length, take, drop, Some, refl, sym, ap, ◌∙◌, subst, arith, append_assoc}
use Rattle.std.specs.Prelude.{◌==◌, nat_le, max, decimal}
use Rattle.std.specs.Str.Parse.{AllDigits}
use Rattle.std.specs.Bool.{⊤}
use Rattle.std.specs.List.{list_all, prefix_len}
use Rattle.std.specs.Option.{unwrap_or}
use Rattle.std.proofs.lemmas.Bool.{leb-true, lt-leb, ne_eqb, eqb-true}
use Rattle.std.proofs.Math.Seq.{take-append_seam, drop-append_seam}
use Rattle.std.proofs.lemmas.Fmt.{decimal_is_IsNumeral_wide}
use Rattle.std.proofs.lemmas.Int.{ints}
use Rattle.std.proofs.lemmas.List.{length-append}
use Rattle.poly_specs.specs.Fractions.{Fraction}
use Rattle.number_specs.specs.Digits.{is_digit}
use Rattle.number_specs.specs.FractionTexts.{denominator_text, fraction_text}
use Rattle.number_specs.specs.Literals.{IsLiteralNumber}
use Rattle.number_specs.proofs.LiteralLemmas.{literals_back}
use Rattle.number_specs.proofs.NumeralLemmas.{digit_is}
use Rattle.run_specs.specs.Names.{is_letter, is_word_byte, begins_as_name}
use Rattle.lang_specs.specs.declared.Kind.{Kind}
use Rattle.lang_specs.specs.declared.Kind.TheVariants as kinds
use Rattle.lang_specs.specs.Words.{spelled, word_kind, sign_kind}
use Rattle.lang_specs.specs.Tokens.{is_blank, begins_comment, begins_word, word_len, digits_len, tail_len, literal_len, kind_of_literal, literal_kind, word_at, literal_at, sign_at, token_at}
use Rattle.lang_specs.proofs.SplitLemmas.{apart, both_left, both_right}
use Rattle.lang_specs.proofs.EachLemmas.{both}

-- ---- what stands behind a token

-- a space, or a sign before which no space stands
abbrev pub is_calm : ℕ → Bool
is_calm c = (c == 32) || ((c == 44) || ((c == 93) || (c == 42)))

-- there is no byte, or the first passes the test so
abbrev pub Begins : (ℕ → Bool) → Bool → List ℕ → Type 0
Begins p b [] = ⊤
Begins p b (c ∷ bytes) = p c ≡ b

abbrev pub IsCalm : List ℕ → Type 0
IsCalm bytes = Begins is_calm true bytes

-- what may stand behind a token of this kind
abbrev pub Follows : Kind → List ℕ → Type 0
Follows kinds.Open bytes = ⊤
Follows kinds.Times bytes = ⊤
Follows kinds.Minus bytes = Begins (λ c. 62 == c) false bytes
Follows k bytes = IsCalm bytes

pub one_or : (a b : Bool) → (a || b) ≡ true → (a ≡ true) ⊎ (b ≡ true)
one_or true b h = inl refl
one_or false b h = inr h

-- what holds of the four calm bytes holds of each
calm_at : (p : ℕ → Bool) (b : Bool) → p 32 ≡ b → p 44 ≡ b → p 93 ≡ b → p 42 ≡ b → (c : ℕ) → is_calm c ≡ true → p c ≡ b
calm_at p b s t u v c h =
    elim (one_or (c == 32) ((c == 44) || ((c == 93) || (c == 42))) h) [
      | inl e ↦ ap p (eqb-true c 32 e) ∙ s
      | inr e ↦ elim (one_or (c == 44) ((c == 93) || (c == 42)) e) [
        | inl f ↦ ap p (eqb-true c 44 f) ∙ t
        | inr f ↦ elim (one_or (c == 93) (c == 42) f) [
          | inl g ↦ ap p (eqb-true c 93 g) ∙ u
          | inr g ↦ ap p (eqb-true c 42 g) ∙ v
        ]
      ]
    ]

pub calm_begins : (p : ℕ → Bool) (b : Bool) → p 32 ≡ b → p 44 ≡ b → p 93 ≡ b → p 42 ≡ b → (bytes : List ℕ) → IsCalm bytes → Begins p b bytes
calm_begins p b s t u v [] h = tt
calm_begins p b s t u v (c ∷ bytes) h = calm_at p b s t u v c h

-- ---- the front

-- these bytes, and then those, begin with a token of this kind, which is just these bytes
pub record IsFront (behind_literal : Bool) (k : Kind) (bytes rest : List ℕ) (is_literal : Bool) : Type 0 where
  pub first : ℕ
  pub others : List ℕ
  pub parts : bytes ≡ first ∷ others
  pub found : token_at behind_literal first (first ∷ others ++ rest) ≡ record { kind = k; size = suc (length others) }
  pub no_blank : is_blank first ≡ false
  pub no_comment : begins_comment first ≡ false
  pub digit : is_digit first ≡ is_literal

next_is : (m n : ℕ) → m ≡ n → 1 + m ≡ suc n
next_is m n e = omega arith

pub prefix_all : (p : ℕ → Bool) (bytes rest : List ℕ) → list_all p bytes ≡ true → Begins p false rest → prefix_len p (bytes ++ rest) ≡ length bytes
prefix_all p [] [] h k = refl
prefix_all p [] (c ∷ rest) h k = ap (λ t. cond t (1 + prefix_len p rest) 0) k
prefix_all p (b ∷ bytes) rest h k =
    ap (λ t. cond t (1 + prefix_len p (bytes ++ rest)) 0) (both_left (p b) (list_all p bytes) h)
    ∙ next_is (prefix_len p (bytes ++ rest)) (length bytes) (prefix_all p bytes rest (both_right (p b) (list_all p bytes) h) k)

-- ---- words

pub letter_from : (b : ℕ) → begins_word b ≡ true → 65 ≤ b
letter_from b h =
    elim (one_or (is_letter b) (b == 95) h) [
      | inl e ↦ elim (one_or (nat_le 65 b && nat_le b 90) (nat_le 97 b && nat_le b 122) e) [
        | inl f ↦ leb-true 65 b (both_left (nat_le 65 b) (nat_le b 90) f)
        | inr f ↦ let g = leb-true 97 b (both_left (nat_le 97 b) (nat_le b 122) f) in omega arith
      ]
      | inr e ↦ let f = eqb-true b 95 e in omega arith
    ]

and_false : (a b : Bool) → b ≡ false → (a && b) ≡ false
and_false true b h = h
and_false false b h = refl

or_false : (a b : Bool) → a ≡ false → b ≡ false → (a || b) ≡ false
or_false true b h k = h
or_false false b h k = k

high_is_no_digit : (b : ℕ) → 65 ≤ b → is_digit b ≡ false
high_is_no_digit b h = and_false (nat_le 48 b) (nat_le b 57) (lt-leb b 57 (omega arith))

pub high_is_no_blank : (b : ℕ) → 33 ≤ b → is_blank b ≡ false
high_is_no_blank b h = or_false (b == 32) (b == 9) (ne_eqb b 32 (λ e. omega arith)) (ne_eqb b 9 (λ e. omega arith))

pub high_is_no_comment : (b : ℕ) → 36 ≤ b → begins_comment b ≡ false
high_is_no_comment b h = ne_eqb b 35 (λ e. omega arith)

word_found : (w rest : List ℕ) → list_all is_word_byte w ≡ true → IsCalm rest →
    word_at false (w ++ rest) ≡ record { kind = word_kind w; size = length w }
word_found w rest h c =
    let size : word_len (w ++ rest) ≡ length w = prefix_all is_word_byte w rest h (calm_begins is_word_byte false refl refl refl refl rest c) in
    ap (λ n. record { kind = word_kind (take n (w ++ rest)); size = n }) size
    ∙ ap (λ z. record { kind = word_kind z; size = length w }) (take-append_seam w rest)

if_true : {A : Type 0} (b : Bool) (x y : A) → b ≡ true → (if b then x else y) ≡ x
if_true b x y e = ap (λ t. if t then x else y) e

if_false : {A : Type 0} (b : Bool) (x y : A) → b ≡ false → (if b then x else y) ≡ y
if_false b x y e = ap (λ t. if t then x else y) e

pub word_front : (k : Kind) (w rest : List ℕ) → begins_as_name w ≡ true → list_all is_word_byte w ≡ true → word_kind w ≡ k → IsCalm rest →
    IsFront false k w rest false
word_front k [] rest b h e c = apart (sym b)
word_front k (x ∷ w) rest b h e c =
    let high = letter_from x b in record {
      first = x;
      others = w;
      parts = refl;
      found =
          if_true (begins_word x) (word_at false (x ∷ w ++ rest)) (if is_digit x then literal_at (x ∷ w ++ rest) else sign_at (x ∷ w ++ rest)) b
          ∙ word_found (x ∷ w) rest h c ∙ ap (λ z. record { kind = z; size = suc (length w) }) e;
      no_blank = high_is_no_blank x (omega arith);
      no_comment = high_is_no_comment x (omega arith);
      digit = high_is_no_digit x high;
    }

-- ---- signs

-- a sign of one kind
sign_front : (behind_literal : Bool) (k : Kind) (b : ℕ) (w rest : List ℕ) → begins_word b ≡ false → is_digit b ≡ false → is_blank b ≡ false →
    begins_comment b ≡ false → sign_kind (b ∷ w ++ rest) ≡ k → max 1 (length (spelled k)) ≡ suc (length w) → IsFront behind_literal k (b ∷ w) rest false
sign_front behind k b w rest no_word no_digit no_blank no_comment e n =
    let bytes : List ℕ = b ∷ w ++ rest in record {
      first = b;
      others = w;
      parts = refl;
      found =
          if_false (begins_word b) (word_at behind bytes) (if is_digit b then literal_at bytes else sign_at bytes) no_word
          ∙ if_false (is_digit b) (literal_at bytes) (sign_at bytes) no_digit
          ∙ ap (λ z. record { kind = z; size = max 1 (length (spelled z)) }) e ∙ ap (λ z. record { kind = k; size = z }) n;
      no_blank = no_blank;
      no_comment = no_comment;
      digit = no_digit;
    }

minus_read : (rest : List ℕ) → Begins (λ c. 62 == c) false rest → sign_kind (45 ∷ rest) ≡ kinds.Minus
minus_read [] h = refl
minus_read (c ∷ rest) h = ap (λ t. unwrap_or (cond (t && true) (Some kinds.Arrow) (Some kinds.Minus)) kinds.Other) h

less_read : (rest : List ℕ) → Begins (λ c. 61 == c) false rest → sign_kind (60 ∷ rest) ≡ kinds.Less
less_read [] h = refl
less_read (c ∷ rest) h = ap (λ t. unwrap_or (cond (t && true) (Some kinds.AtMost) (Some kinds.Less)) kinds.Other) h

greater_read : (rest : List ℕ) → Begins (λ c. 61 == c) false rest → sign_kind (62 ∷ rest) ≡ kinds.Greater
greater_read [] h = refl
greater_read (c ∷ rest) h = ap (λ t. unwrap_or (cond (t && true) (Some kinds.AtLeast) (Some kinds.Greater)) kinds.Other) h

abbrev pub is_sign : Kind → Bool
is_sign kinds.Comma = true
is_sign kinds.Open = true
is_sign kinds.Close = true
is_sign kinds.AtMost = true
is_sign kinds.AtLeast = true
is_sign kinds.Equal = true
is_sign kinds.Less = true
is_sign kinds.Greater = true
is_sign kinds.Plus = true
is_sign kinds.Minus = true
is_sign kinds.Times = true
is_sign kinds.Arrow = true
is_sign k = false

pub sign_is_front : (b : Bool) (k : Kind) (rest : List ℕ) → is_sign k ≡ true → Follows k rest → IsFront b k (spelled k) rest false
sign_is_front b kinds.Comma rest h f = sign_front b kinds.Comma 44 [] rest refl refl refl refl refl refl
sign_is_front b kinds.Open rest h f = sign_front b kinds.Open 91 [] rest refl refl refl refl refl refl
sign_is_front b kinds.Close rest h f = sign_front b kinds.Close 93 [] rest refl refl refl refl refl refl
sign_is_front b kinds.AtMost rest h f = sign_front b kinds.AtMost 60 (61 ∷ []) rest refl refl refl refl refl refl
sign_is_front b kinds.AtLeast rest h f = sign_front b kinds.AtLeast 62 (61 ∷ []) rest refl refl refl refl refl refl
sign_is_front b kinds.Equal rest h f = sign_front b kinds.Equal 61 [] rest refl refl refl refl refl refl
sign_is_front b kinds.Less rest h f =
    sign_front b kinds.Less 60 [] rest refl refl refl refl (less_read rest (calm_begins (λ c. 61 == c) false refl refl refl refl rest f)) refl
sign_is_front b kinds.Greater rest h f =
    sign_front b kinds.Greater 62 [] rest refl refl refl refl (greater_read rest (calm_begins (λ c. 61 == c) false refl refl refl refl rest f)) refl
sign_is_front b kinds.Plus rest h f = sign_front b kinds.Plus 43 [] rest refl refl refl refl refl refl
sign_is_front b kinds.Minus rest h f = sign_front b kinds.Minus 45 [] rest refl refl refl refl (minus_read rest f) refl
sign_is_front b kinds.Times rest h f = sign_front b kinds.Times 42 [] rest refl refl refl refl refl refl
sign_is_front b kinds.Arrow rest h f = sign_front b kinds.Arrow 45 (62 ∷ []) rest refl refl refl refl refl refl
sign_is_front b k rest h f = apart (sym h)

-- ---- keywords

abbrev pub is_keyword : Kind → Bool
is_keyword kinds.Name = false
is_keyword kinds.Number = false
is_keyword kinds.EndLine = false
is_keyword kinds.EndText = false
is_keyword kinds.Other = false
is_keyword k = not (is_sign k)

-- a keyword is a word, and its own
record IsWord (k : Kind) : Type 0 where
  begins : begins_as_name (spelled k) ≡ true
  all : list_all is_word_byte (spelled k) ≡ true
  kind : word_kind (spelled k) ≡ k

keyword_is : (k : Kind) → is_keyword k ≡ true → IsWord k
keyword_is kinds.Lha h = record { begins = refl; all = refl; kind = refl }
keyword_is kinds.Automaton h = record { begins = refl; all = refl; kind = refl }
keyword_is kinds.Var h = record { begins = refl; all = refl; kind = refl }
keyword_is kinds.Loc h = record { begins = refl; all = refl; kind = refl }
keyword_is kinds.Unsafe h = record { begins = refl; all = refl; kind = refl }
keyword_is kinds.Init h = record { begins = refl; all = refl; kind = refl }
keyword_is kinds.Inv h = record { begins = refl; all = refl; kind = refl }
keyword_is kinds.Flow h = record { begins = refl; all = refl; kind = refl }
keyword_is kinds.In h = record { begins = refl; all = refl; kind = refl }
keyword_is kinds.Also h = record { begins = refl; all = refl; kind = refl }
keyword_is kinds.Trans h = record { begins = refl; all = refl; kind = refl }
keyword_is kinds.As h = record { begins = refl; all = refl; kind = refl }
keyword_is kinds.When h = record { begins = refl; all = refl; kind = refl }
keyword_is kinds.Set h = record { begins = refl; all = refl; kind = refl }
keyword_is kinds.Free h = record { begins = refl; all = refl; kind = refl }
keyword_is kinds.End h = record { begins = refl; all = refl; kind = refl }
keyword_is kinds.True h = record { begins = refl; all = refl; kind = refl }
keyword_is kinds.Obs h = record { begins = refl; all = refl; kind = refl }
keyword_is kinds.Within h = record { begins = refl; all = refl; kind = refl }
keyword_is k h = apart (sym h)

pub keyword_front : (k : Kind) (rest : List ℕ) → is_keyword k ≡ true → IsCalm rest → IsFront false k (spelled k) rest false
keyword_front k rest h c = let w = keyword_is k h in word_front k (spelled k) rest w.begins w.all w.kind c

-- ---- literals

digits_read : (ds rest : List ℕ) → list_all is_digit ds ≡ true → Begins is_digit false rest → digits_len (ds ++ rest) ≡ length ds
digits_read ds rest h k = prefix_all is_digit ds rest h k

-- what stands behind the digits, and its length
literal_read : (ds tail rest : List ℕ) → list_all is_digit ds ≡ true → Begins is_digit false (tail ++ rest) → tail_len (tail ++ rest) ≡ length tail →
    literal_len ((ds ++ tail) ++ rest) ≡ length ds + length tail
literal_read ds tail rest h k t =
    let size = digits_read ds (tail ++ rest) h k in
    ap literal_len (append_assoc ds tail rest)
    ∙ ap (λ n. n + tail_len (drop n (ds ++ (tail ++ rest)))) size
    ∙ ap (λ z. length ds + tail_len z) (drop-append_seam ds (tail ++ rest)) ∙ ap (λ n. length ds + n) t

calm_tail : (rest : List ℕ) → IsCalm rest → tail_len rest ≡ 0
calm_tail [] h = refl
calm_tail (c ∷ rest) h =
    if_false ((c == 47) || (c == 46)) (if digits_len rest == 0 then 0 else 1 + digits_len rest) 0
    (calm_at (λ z. (z == 47) || (z == 46)) false refl refl refl refl c h)

slash_tail : (e : ℕ) (es rest : List ℕ) → list_all is_digit (e ∷ es) ≡ true → IsCalm rest → tail_len (47 ∷ e ∷ es ++ rest) ≡ length (47 ∷ e ∷ es)
slash_tail e es rest h c =
    ap (λ n. if n == 0 then 0 else 1 + n) (digits_read (e ∷ es) rest h (calm_begins is_digit false refl refl refl refl rest c))
    ∙ if_false (suc (length es) == 0) 0 (1 + suc (length es)) (ne_eqb (suc (length es)) 0 (λ z. omega arith))
    ∙ next_is (suc (length es)) (suc (length es)) refl

pub digit_from : (b : ℕ) → is_digit b ≡ true → (48 ≤ b) × (b ≤ 57)
digit_from b h = (leb-true 48 b (both_left (nat_le 48 b) (nat_le b 57) h), leb-true b 57 (both_right (nat_le 48 b) (nat_le b 57) h))

low_is_no_word : (b : ℕ) → b ≤ 57 → begins_word b ≡ false
low_is_no_word b h =
    or_false (is_letter b) (b == 95)
    (or_false (nat_le 65 b && nat_le b 90) (nat_le 97 b && nat_le b 122) (ap (λ t. t && nat_le b 90) (lt-leb 65 b (omega arith)))
    (ap (λ t. t && nat_le b 122) (lt-leb 97 b (omega arith))))
    (ne_eqb b 95 (λ e. omega arith))

literal_found : (ds tail rest : List ℕ) → list_all is_digit ds ≡ true → Begins is_digit false (tail ++ rest) → tail_len (tail ++ rest) ≡ length tail →
    literal_kind (ds ++ tail) ≡ kinds.Number → literal_at ((ds ++ tail) ++ rest) ≡ record { kind = kinds.Number; size = length (ds ++ tail) }
literal_found ds tail rest h k t e =
    let size : literal_len ((ds ++ tail) ++ rest) ≡ length (ds ++ tail) = literal_read ds tail rest h k t ∙ sym (length-append ds tail) in
    ap (λ n. record { kind = literal_kind (take n ((ds ++ tail) ++ rest)); size = n }) size
    ∙ ap (λ z. record { kind = literal_kind z; size = length (ds ++ tail) }) (take-append_seam (ds ++ tail) rest)
    ∙ ap (λ z. record { kind = z; size = length (ds ++ tail) }) e

-- digits, and what may stand behind them in a literal
pub literal_front : (b : Bool) (ds tail rest : List ℕ) → 1 ≤ length ds → list_all is_digit ds ≡ true → Begins is_digit false (tail ++ rest) →
    tail_len (tail ++ rest) ≡ length tail → literal_kind (ds ++ tail) ≡ kinds.Number → IsFront b kinds.Number (ds ++ tail) rest true
literal_front b [] tail rest some h k t e = absurd (omega arith)
literal_front b (d ∷ ds) tail rest some h k t e =
    let digit : is_digit d ≡ true = both_left (is_digit d) (list_all is_digit ds) h in
    let range = digit_from d digit in
    let bytes : List ℕ = (d ∷ ds ++ tail) ++ rest in record {
      first = d;
      others = ds ++ tail;
      parts = refl;
      found =
          if_false (begins_word d) (word_at b bytes) (if is_digit d then literal_at bytes else sign_at bytes) (low_is_no_word d range.1)
          ∙ if_true (is_digit d) (literal_at bytes) (sign_at bytes) digit ∙ literal_found (d ∷ ds) tail rest h k t e;
      no_blank = high_is_no_blank d (omega arith);
      no_comment = high_is_no_comment d (omega arith);
      digit = digit;
    }

all_digits : (ds : List ℕ) → AllDigits 10 ds → list_all is_digit ds ≡ true
all_digits [] h = refl
all_digits (d ∷ ds) h = both (is_digit d) (list_all is_digit ds) (digit_is d h.0) (all_digits ds h.1)

-- a number's digits
pub record AreDigits (ds : List ℕ) : Type 0 where
  pub some : 1 ≤ length ds
  pub all : list_all is_digit ds ≡ true

pub decimal_is : (n : ℕ) → n < 10 ^ 9 → AreDigits (decimal n)
decimal_is n h =
    let is = decimal_is_IsNumeral_wide n (omega (arith, h)) in
    record { some = omega (arith, is.0.0); all = all_digits (decimal n) is.0.1 }

calm_behind : (p : Bool) (es : List ℕ) (rest : List ℕ) → AreDigits es → IsCalm rest →
    Begins is_digit false ((if p then [] else 47 ∷ es) ++ rest) × (tail_len ((if p then [] else 47 ∷ es) ++ rest) ≡ length (if p then [] else 47 ∷ es))
calm_behind true es rest d c = (calm_begins is_digit false refl refl refl refl rest c, calm_tail rest c)
calm_behind false [] rest d c = absurd (omega (arith, d.some))
calm_behind false (e ∷ es) rest d c = (refl, slash_tail e es rest d.all c)

-- what is written of a number that a literal may write
abbrev pub IsNumberText : List ℕ → Type 0
IsNumberText text = (v : Fraction) × (text ≡ fraction_text v) × IsLiteralNumber v

number_kind : (v : Fraction) → IsLiteralNumber v → literal_kind (fraction_text v) ≡ kinds.Number
number_kind v h = ap kind_of_literal (literals_back v h)

fraction_front : (b : Bool) (n d : ℤ) (rest : List ℕ) → IsLiteralNumber (record { num = n; den = d }) → IsCalm rest →
    IsFront b kinds.Number (fraction_text (record { num = n; den = d })) rest true
fraction_front b (pos m) (pos d) rest h c =
    let ds = decimal_is m h.small_num in
    let behind = calm_behind (d == 1) (decimal d) rest (decimal_is d h.small_den) c in
    literal_front b (decimal m) (denominator_text d) rest ds.some ds.all behind.0 behind.1 (number_kind (record { num = pos m; den = pos d }) h)
fraction_front b (pos m) (negsuc d) rest h c = absurd (omega (arith, ints, h.lowest_terms.positive))
fraction_front b (negsuc n) d rest h c = absurd (omega (arith, ints, h.at_least_zero))

pub number_front : (b : Bool) (text rest : List ℕ) → IsNumberText text → IsCalm rest → IsFront b kinds.Number text rest true
number_front b text rest (v, e, h) c = subst (λ z. IsFront b kinds.Number z rest true) (sym e) (fraction_front b v.num v.den rest h c)
