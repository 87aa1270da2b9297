-- Tokens and lines that are printed one behind the other.
use Rattle.std.proofs.Common.{◌≡◌, ℕ, ◌+◌, ◌-◌, ◌<◌, true, false, Result, Ok, Err, List, [], ◌∷◌, ◌++◌, length, take, drop, get_or, refl, sym, ap, ◌∙◌, arith, append_assoc, append-nil, codes}
use Rattle.std.specs.Prelude.{OnOk}
use Rattle.std.specs.List.{flat_map}
use Rattle.std.proofs.Math.Seq.{take-length}
use Rattle.std.proofs.lemmas.List.{take_more}
use Rattle.std.proofs.lemmas.List.Concat.{flat_map-append}
use Rattle.lang_specs.specs.declared.Kind.{Kind}
use Rattle.lang_specs.specs.declared.Kind.TheVariants as kinds
use Rattle.lang_specs.specs.Marks.{Mark, the}
use Rattle.lang_specs.specs.Canonical.{joined, written, leads, spaced, line_text}
use Rattle.lang_print.specs.Pages.{Page, space_before, with_token, with_tokens, at_line_start, with_line, with_lines}

pub tokens_append : (xs ys : List Mark) (p : Page) → with_tokens p (xs ++ ys) ≡ with_tokens (with_tokens p xs) ys
tokens_append [] ys p = refl
tokens_append (x ∷ xs) ys p = tokens_append xs ys (with_token p x)

pub lines_append : (xs ys : List (List Mark)) (p : Page) → with_lines p (xs ++ ys) ≡ with_lines (with_lines p xs) ys
lines_append [] ys p = refl
lines_append (x ∷ xs) ys p = lines_append xs ys (with_line p x)

-- ---- one thing more

flat_more : {X A : Type 0} (f : X → List A) (xs : List X) (i : ℕ) (d : X) → i < length xs → flat_map f (take (i + 1) xs) ≡ flat_map f (take i xs) ++ f (get_or xs i d)
flat_more f xs i d h =
    ap (flat_map f) (take_more xs i d h) ∙ flat_map-append f (take i xs) (get_or xs i d ∷ [])
    ∙ ap (λ z. flat_map f (take i xs) ++ z) (append-nil (f (get_or xs i d)))

pub tokens_more : {X : Type 0} (f : X → List Mark) (xs : List X) (i : ℕ) (d : X) (p q : Page) → i < length xs → q ≡ with_tokens p (flat_map f (take i xs)) →
    with_tokens q (f (get_or xs i d)) ≡ with_tokens p (flat_map f (take (i + 1) xs))
tokens_more f xs i d p q h e =
    ap (λ z. with_tokens z (f (get_or xs i d))) e ∙ sym (tokens_append (flat_map f (take i xs)) (f (get_or xs i d)) p)
    ∙ ap (with_tokens p) (sym (flat_more f xs i d h))

pub lines_more : {X : Type 0} (f : X → List (List Mark)) (xs : List X) (i : ℕ) (d : X) (p q : Page) → i < length xs → q ≡ with_lines p (flat_map f (take i xs)) →
    with_lines q (f (get_or xs i d)) ≡ with_lines p (flat_map f (take (i + 1) xs))
lines_more f xs i d p q h e =
    ap (λ z. with_lines z (f (get_or xs i d))) e ∙ sym (lines_append (flat_map f (take i xs)) (f (get_or xs i d)) p)
    ∙ ap (with_lines p) (sym (flat_more f xs i d h))

-- ---- bytes

tokens_bytes : (ms : List Mark) (p : Page) → (with_tokens p ms).bytes ≡ p.bytes ++ spaced p.before p.leading ms
tokens_bytes [] p = sym (append-nil p.bytes)
tokens_bytes (m ∷ ms) p =
    let rest : List ℕ = spaced m.kind (leads p.before m.kind) ms in
    tokens_bytes ms (with_token p m) ∙ append_assoc (p.bytes ++ space_before p m.kind) (written m) rest
    ∙ append_assoc p.bytes (space_before p m.kind) (written m ++ rest)
    ∙ ap (λ z. p.bytes ++ z) (sym (append_assoc (space_before p m.kind) (written m) rest))

none_leads : (k : Kind) → leads kinds.Name k ≡ false
none_leads kinds.Minus = refl
none_leads k = refl

line_is : (ms : List Mark) → spaced kinds.Name true ms ++ codes "\n" ≡ line_text ms
line_is [] = refl
line_is (m ∷ ms) = ap (λ z. written m ++ spaced m.kind z ms ++ codes "\n") (none_leads m.kind)

line_bytes : (ms : List Mark) (bytes : List ℕ) → with_line (at_line_start bytes) ms ≡ at_line_start (bytes ++ line_text ms)
line_bytes ms bytes =
    ap (λ z. at_line_start (z ++ codes "\n")) (tokens_bytes ms (at_line_start bytes))
    ∙ ap at_line_start (append_assoc bytes (spaced kinds.Name true ms) (codes "\n") ∙ ap (λ z. bytes ++ z) (line_is ms))

-- lines that are printed from the start of a line on
pub lines_bytes : (lines : List (List Mark)) (bytes : List ℕ) → with_lines (at_line_start bytes) lines ≡ at_line_start (bytes ++ flat_map line_text lines)
lines_bytes [] bytes = ap at_line_start (sym (append-nil bytes))
lines_bytes (ms ∷ lines) bytes =
    ap (λ z. with_lines z lines) (line_bytes ms bytes) ∙ lines_bytes lines (bytes ++ line_text ms)
    ∙ ap at_line_start (append_assoc bytes (line_text ms) (flat_map line_text lines))

-- ---- lists with commas

pub on_ok : {A E : Type 0} (r : Result A E) (P Q : Type 0) → (P → Q) → OnOk r P → OnOk r Q
on_ok (Ok x) P Q f h = f h
on_ok (Err e) P Q f h = tt

abbrev pub more_tokens : {X : Type 0} → (X → List Mark) → List X → List Mark
more_tokens f xs = flat_map (λ x. the kinds.Comma ∷ f x) xs

-- what stands behind the first
rest_is : {X : Type 0} (x : X) (xs : List X) → take (length (x ∷ xs) - 1) xs ≡ xs
rest_is x xs = let n : length (x ∷ xs) - 1 ≡ length xs = omega arith in ap (λ n. take n xs) n ∙ take-length xs

pub joined_tokens : {X : Type 0} (f : X → List Mark) (xs : List X) (x : X) (p q r : Page) → 0 < length xs → x ≡ get_or xs 0 x → q ≡ with_tokens p (f x) →
    r ≡ with_tokens q (more_tokens f (take (length xs - 1) (drop 1 xs))) → r ≡ with_tokens p (joined f xs)
joined_tokens f [] x p q r h is e k = absurd (omega arith)
joined_tokens f (y ∷ ys) x p q r h is e k =
    k ∙ ap (λ z. with_tokens q (more_tokens f z)) (rest_is y ys)
    ∙ ap (λ z. with_tokens z (more_tokens f ys)) (e ∙ ap (λ z. with_tokens p (f z)) is) ∙ sym (tokens_append (f y) (more_tokens f ys) p)

pub text_bytes : (p : Page) (lines : List (List Mark)) → p ≡ with_lines (at_line_start []) lines → p.bytes ≡ flat_map line_text lines
text_bytes p lines e = ap (λ z. z.bytes) (e ∙ lines_bytes lines [])
