-- The first line of a text.
use Rattle.std.proofs.Common.{◌≡◌, ℕ, zero, suc, ◌+◌, ◌<◌, ◌≤◌, ◌==◌, Bool, true, false, not, if◌then◌else◌, List, [], ◌∷◌, ◌++◌, length, get_or, take, drop, Some, None, refl, sym, ap, ◌∙◌, append_assoc, append-nil, nat_lt, subst, arith}
use Rattle.std.specs.List.{prefix_len, position}
use Rattle.std.proofs.lemmas.List.Sums.{prefix_len-le-length}
use Rattle.lang_specs.specs.Lines.{without_return, last_line, lines_from, lines_of}

pub return_cut : (line : List ℕ) (k : ℕ) → k + 1 ≡ length line → get_or line k 0 ≡ 13 → take k line ≡ without_return line
return_cut [] k lt e = absurd (omega arith)
return_cut (b ∷ []) zero lt e = rw e refl
return_cut (b ∷ []) (suc k) lt e = absurd (omega arith)
return_cut (b ∷ c ∷ bytes) zero lt e = absurd (omega arith)
return_cut (b ∷ c ∷ bytes) (suc k) lt e = ap (λ z. b ∷ z) (return_cut (c ∷ bytes) k (omega arith) e)

pub no_return : (line : List ℕ) → ((k : ℕ) → k + 1 ≡ length line → get_or line k 0 ≡ 13 → ⊥) → line ≡ without_return line
no_return [] ne = refl
no_return (b ∷ []) ne = let e : (b == 13) ≡ false = let n = ne 0 (omega arith) in grind arith in rw e refl
no_return (b ∷ c ∷ bytes) ne = ap (λ z. b ∷ z) (no_return (c ∷ bytes) (λ k lt. ne (suc k) (omega arith)))

abbrev pub is_feed : ℕ → Bool
is_feed b = b == 10

abbrev pub no_feed : ℕ → Bool
no_feed b = not (b == 10)

-- the bytes before the first line feed end the line that has begun
pub line_cut : (begun text : List ℕ) → prefix_len no_feed text < length text →
    lines_from begun text ≡ without_return (begun ++ take (prefix_len no_feed text) text) ∷ lines_from [] (drop 1 (drop (prefix_len no_feed text) text))
unfolding lines_from
line_cut begun [] lt = absurd (omega arith)
line_cut begun (b ∷ text) lt =
    let n = prefix_len no_feed text in
    elim (b == 10) as (λ x. (if not x then 1 + n else 0) < length (b ∷ text) → (if x then without_return begun ∷ lines_from [] text else lines_from (begun ++ b ∷ []) text)
    ≡ without_return (begun ++ take (if not x then 1 + n else 0) (b ∷ text)) ∷ lines_from [] (drop 1 (drop (if not x then 1 + n else 0) (b ∷ text)))) [
      | true ↦ λ h. ap (λ z. without_return z ∷ lines_from [] text) (sym (append-nil begun))
      | false ↦ λ h.
          let sucs : suc n ≡ 1 + n = omega arith in
          line_cut (begun ++ b ∷ []) text (omega arith)
          ∙ ap (λ z. without_return z ∷ lines_from [] (drop 1 (drop n text))) (append_assoc begun (b ∷ []) (take n text))
          ∙ ap (λ k. without_return (begun ++ take k (b ∷ text)) ∷ lines_from [] (drop 1 (drop k (b ∷ text)))) sucs
    ] lt

pub line_last : (begun text : List ℕ) → prefix_len no_feed text ≡ length text → lines_from begun text ≡ last_line (begun ++ text)
unfolding lines_from
line_last begun [] e = ap last_line (sym (append-nil begun))
line_last begun (b ∷ text) e =
    let n = prefix_len no_feed text in
    elim (b == 10) as (λ x. (if not x then 1 + n else 0) ≡ length (b ∷ text) → (if x then without_return begun ∷ lines_from [] text else lines_from (begun ++ b ∷ []) text) ≡ last_line (begun ++ b ∷ text)) [
      | true ↦ λ h. absurd (omega arith)
      | false ↦ λ h. line_last (begun ++ b ∷ []) text (omega arith) ∙ ap last_line (append_assoc begun (b ∷ []) text)
    ] e

none_is_some : {A : Type 0} (x : A) → None ≡ Some x → ⊥
none_is_some x e = cc

pub position_is : (text : List ℕ) (at : ℕ) → position is_feed text ≡ Some at → (at ≡ prefix_len no_feed text) × (at < length text)
position_is text at e =
    let n = prefix_len no_feed text in
    elim (nat_lt n (length text)) as (λ x. nat_lt n (length text) ≡ x → (if x then Some n else None) ≡ Some at → (at ≡ n) × (at < length text)) [
      | true ↦ λ h k. let same : at ≡ n = cc in (same, grind arith)
      | false ↦ λ h k. absurd (none_is_some at k)
    ] refl e

pub position_none : (text : List ℕ) → position is_feed text ≡ None → prefix_len no_feed text ≡ length text
position_none text e =
    let n = prefix_len no_feed text in
    elim (nat_lt n (length text)) as (λ x. nat_lt n (length text) ≡ x → (if x then Some n else None) ≡ None → n ≡ length text) [
      | true ↦ λ h k. absurd (none_is_some n (sym k))
      | false ↦ λ h k. let le = prefix_len-le-length no_feed text in let least : length text ≤ n = grind arith in omega arith
    ] refl e

pub last_is : (text : List ℕ) → 0 < length text → last_line text ≡ text ∷ []
last_is [] lt = absurd (omega arith)
last_is (b ∷ text) lt = refl

pub no_lines : lines_of [] ≡ []
unfolding lines_from
no_lines = refl

-- the text up to a line feed is a line
pub first_line : (text line rest : List ℕ) (at : ℕ) → position is_feed text ≡ Some at → line ≡ without_return (take at text) → rest ≡ drop 1 (drop at text) → lines_of text ≡ line ∷ lines_of rest
first_line text line rest at e a b =
    let found = position_is text at e in
    rw (a, b, found.0) (line_cut [] text (subst (λ k. k < length text) found.0 found.1))

-- a text with no line feed is a line
pub only_line : (text : List ℕ) → 0 < length text → position is_feed text ≡ None → lines_of text ≡ text ∷ lines_of []
only_line text lt e = line_last [] text (position_none text e) ∙ last_is text lt ∙ ap (λ z. text ∷ z) (sym no_lines)

pub empty_lines : (text : List ℕ) → length text ≡ 0 → lines_of text ≡ []
empty_lines [] e = no_lines
empty_lines (b ∷ text) e = absurd (omega arith)
