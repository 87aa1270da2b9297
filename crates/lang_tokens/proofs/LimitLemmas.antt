-- Limits that tokens keep, and which of those that are passed is told.
use Rattle.std.proofs.Common.{◌≡◌, ◌⊎◌, inl, inr, ℕ, suc, ◌≤◌, Bool, true, false, not, ◌&&◌, ◌||◌, if◌then◌else◌, List, [], ◌∷◌, ◌++◌, Some, None, refl, sym, ap, ◌∙◌, subst, arith}
use Rattle.std.specs.List.{find}
use Rattle.lang_specs.specs.declared.Which.{Which}
use Rattle.lang_specs.specs.declared.Which.TheVariants.{Automata, Variables, Locations, Transitions, Rows, Terms, NameBytes, Digits}
use Rattle.lang_specs.specs.Marks.{Mark}
use Rattle.lang_specs.specs.Limits.{rank, has_few_bytes, has_few_digits}
use Rattle.lang_specs.specs.FirstFault.{is_joint}
use Rattle.lang_tokens.specs.Machines.{token_keeps, limits}
use Rattle.lang_tokens.specs.LineFaults.{marks_keep, is_literal, AreLiterals}
use Rattle.lang_tokens.proofs.Walks.{both, every_kind}

-- ---- truth values

pub both_so : (a b : Bool) → a ≡ true → b ≡ true → (a && b) ≡ true
both_so true b h k = k
both_so false b h k = absurd cc

pub either : (a b c : Bool) → (a || (b && c)) ≡ true → (a ≡ true) ⊎ ((b ≡ true) × (c ≡ true))
either true b c e = inl refl
either false b c e = inr (both b c e)

pub not_false : (b : Bool) → not b ≡ false → b ≡ true
not_false true e = refl
not_false false e = absurd cc

pub not_true : (b : Bool) → not b ≡ true → b ≡ true → ⊥
not_true true e h = cc
not_true false e h = cc

implied : (a b : Bool) → (not a || b) ≡ true → a ≡ true → b ≡ true
implied true b e h = e
implied false b e h = absurd cc

-- ---- tokens that keep to a limit

pub keep_append : (which : Which) (ms ns : List Mark) → marks_keep which ms ≡ true → marks_keep which ns ≡ true → marks_keep which (ms ++ ns) ≡ true
keep_append which [] ns h k = k
keep_append which (m ∷ ms) ns h k =
    let p = both (token_keeps which m) (marks_keep which ms) h in both_so (token_keeps which m) (marks_keep which (ms ++ ns)) p.0 (keep_append which ms ns p.1 k)

pub keep_one : (which : Which) (m : Mark) → token_keeps which m ≡ true → marks_keep which (m ∷ []) ≡ true
keep_one which m h = both_so (token_keeps which m) true h refl

-- the mark behind some others keeps to the limit where all do
pub keep_at : (which : Which) (ms ns : List Mark) (m : Mark) → marks_keep which ((ms ++ m ∷ []) ++ ns) ≡ true → token_keeps which m ≡ true
keep_at which [] ns m h = (both (token_keeps which m) (marks_keep which ns) h).0
keep_at which (x ∷ ms) ns m h = keep_at which ms ns m (both (token_keeps which x) (marks_keep which ((ms ++ m ∷ []) ++ ns)) h).1

-- a sign passes no limit by itself
pub joint_keeps : (which : Which) (m : Mark) → is_joint m.kind ≡ true → token_keeps which m ≡ true
joint_keeps Automata m h = refl
joint_keeps Variables m h = refl
joint_keeps Locations m h = refl
joint_keeps Transitions m h = refl
joint_keeps Rows m h = refl
joint_keeps Terms m h = refl
joint_keeps NameBytes m h = implied (is_joint m.kind) (has_few_bytes m.kind m.text) (every_kind (λ k. not (is_joint k) || has_few_bytes k m.text) refl refl m.kind) h
joint_keeps Digits m h = implied (is_joint m.kind) (has_few_digits m.kind m.text) (every_kind (λ k. not (is_joint k) || has_few_digits k m.text) refl refl m.kind) h

-- what may stand in any line: a literal that has a value, few bytes and few digits
abbrev pub is_plain : Mark → Bool
is_plain m = is_literal m && (has_few_bytes m.kind m.text && has_few_digits m.kind m.text)

abbrev pub ArePlain : List Mark → Type 0
ArePlain [] = Unit {0}
ArePlain (m ∷ ms) = (is_plain m ≡ true) × ArePlain ms

pub plain_append : (ms ns : List Mark) → ArePlain ms → ArePlain ns → ArePlain (ms ++ ns)
plain_append [] ns h k = k
plain_append (m ∷ ms) ns h k = (h.0, plain_append ms ns h.1 k)

pub plain_literals : (ms : List Mark) → ArePlain ms → AreLiterals ms
plain_literals [] h = tt
plain_literals (m ∷ ms) h = ((both (is_literal m) (has_few_bytes m.kind m.text && has_few_digits m.kind m.text) h.0).0, plain_literals ms h.1)

plain_keeps : (which : Which) (m : Mark) → is_plain m ≡ true → token_keeps which m ≡ true
plain_keeps Automata m h = refl
plain_keeps Variables m h = refl
plain_keeps Locations m h = refl
plain_keeps Transitions m h = refl
plain_keeps Rows m h = refl
plain_keeps Terms m h = refl
plain_keeps NameBytes m h =
    (both (has_few_bytes m.kind m.text) (has_few_digits m.kind m.text) (both (is_literal m) (has_few_bytes m.kind m.text && has_few_digits m.kind m.text) h).1).0
plain_keeps Digits m h =
    (both (has_few_bytes m.kind m.text) (has_few_digits m.kind m.text) (both (is_literal m) (has_few_bytes m.kind m.text && has_few_digits m.kind m.text) h).1).1

pub plain_keep : (which : Which) (ms : List Mark) → ArePlain ms → marks_keep which ms ≡ true
plain_keep which [] h = refl
plain_keep which (m ∷ ms) h = both_so (token_keeps which m) (marks_keep which ms) (plain_keeps which m h.0) (plain_keep which ms h.1)

-- ---- the limit that is told

In : Which → List Which → Type 0
In w [] = ⊥
In w (x ∷ xs) = (w ≡ x) ⊎ In w xs

in_limits : (which : Which) → In which limits
unfolding In
in_limits Automata = inl refl
in_limits Variables = inr (inl refl)
in_limits Locations = inr (inr (inl refl))
in_limits Transitions = inr (inr (inr (inl refl)))
in_limits Rows = inr (inr (inr (inr (inl refl))))
in_limits Terms = inr (inr (inr (inr (inr (inl refl)))))
in_limits NameBytes = inr (inr (inr (inr (inr (inr (inl refl))))))
in_limits Digits = inr (inr (inr (inr (inr (inr (inr (inl refl)))))))

-- the ranks of these limits go on from n
RankedFrom : ℕ → List Which → Type 0
RankedFrom n [] = Unit {0}
RankedFrom n (x ∷ xs) = (rank x ≡ n) × RankedFrom (suc n) xs

limits_ranked : RankedFrom 0 limits
unfolding RankedFrom
limits_ranked = (refl, (refl, (refl, (refl, (refl, (refl, (refl, (refl, tt))))))))

rank_from : (n : ℕ) (ws : List Which) (w : Which) → RankedFrom n ws → In w ws → n ≤ rank w
unfolding RankedFrom In
rank_from n [] w r i = absurd i
rank_from n (x ∷ xs) w r (inl e) = let same : rank w ≡ n = ap rank e ∙ r.0 in omega arith
rank_from n (x ∷ xs) w r (inr i) = let more = rank_from (suc n) xs w r.1 i in omega arith

module _ (p : Which → Bool) where
  no_find : (ws : List Which) → find p ws ≡ None → (w : Which) → In w ws → p w ≡ false
  unfolding In
  no_find [] e w i = absurd i
  no_find (x ∷ xs) e w i =
      elim (p x) as (λ b. p x ≡ b → (if b then Some x else find p xs) ≡ None → p w ≡ false) [
        | true ↦ λ h k. absurd cc
        | false ↦ λ h k. elim i [ inl same ↦ ap p same ∙ h | inr j ↦ no_find xs k w j ]
      ] refl e

  pub none_passed : find p limits ≡ None → (w : Which) → p w ≡ false
  none_passed e w = no_find limits e w (in_limits w)

  pub one_passed : (ws : List Which) (w : Which) → find p ws ≡ Some w → p w ≡ true
  one_passed [] w e = absurd cc
  one_passed (x ∷ xs) w e =
      elim (p x) as (λ b. p x ≡ b → (if b then Some x else find p xs) ≡ Some w → p w ≡ true) [
        | true ↦ λ h k. let same : x ≡ w = cc in subst (λ v. p v ≡ true) same h
        | false ↦ λ h k. one_passed xs w k
      ] refl e

  first_by : (n : ℕ) (ws : List Which) (w : Which) → RankedFrom n ws → find p ws ≡ Some w → (other : Which) → In other ws → p other ≡ true → rank w ≤ rank other
  unfolding RankedFrom In
  first_by n [] w r e other i h = absurd i
  first_by n (x ∷ xs) w r e other i h =
      elim (p x) as (λ b. p x ≡ b → (if b then Some x else find p xs) ≡ Some w → rank w ≤ rank other) [
        | true ↦ λ k f.
            let same : x ≡ w = cc in
            let least = rank_from n (x ∷ xs) other r i in
            let is : rank w ≡ n = ap rank (sym same) ∙ r.0 in
            omega arith
        | false ↦ λ k f. elim i [ inl same ↦ absurd (let no : true ≡ false = sym h ∙ ap p same ∙ k in cc) | inr j ↦ first_by (suc n) xs w r.1 f other j h ]
      ] refl e

  pub first_passed : (w : Which) → find p limits ≡ Some w → (other : Which) → p other ≡ true → rank w ≤ rank other
  first_passed w e other h = first_by 0 limits w limits_ranked e other (in_limits other) h

-- ---- lists with one more mark

not_empty : {A : Type 0} (xs : List A) (x : A) → [] ≡ xs ++ x ∷ [] → ⊥
not_empty [] x e = cc
not_empty (y ∷ xs) x e = cc

pub last_same : {A : Type 0} (xs ys : List A) (x y : A) → xs ++ x ∷ [] ≡ ys ++ y ∷ [] → (xs ≡ ys) × (x ≡ y)
last_same [] [] x y e = (refl, cc)
last_same [] (z ∷ ys) x y e = absurd (not_empty ys y (let tail : [] ≡ ys ++ y ∷ [] = cc in tail))
last_same (w ∷ xs) [] x y e = absurd (not_empty xs x (let tail : [] ≡ xs ++ x ∷ [] = cc in tail))
last_same (w ∷ xs) (z ∷ ys) x y e =
    let tail : xs ++ x ∷ [] ≡ ys ++ y ∷ [] = cc in
    let more = last_same xs ys x y tail in
    let head : w ≡ z = cc in
    let front = more.0 in
    (cc, more.1)

-- a beginning of marks is all of them, or one of those before the last
pub split_last : {A : Type 0} (ms : List A) (m : A) (front rest : List A) → ms ++ m ∷ [] ≡ front ++ rest → (front ≡ ms ++ m ∷ []) ⊎ ((more : List A) × (ms ≡ front ++ more))
split_last ms m [] rest e = inr (ms, refl)
split_last [] m (f ∷ []) [] e = inl (sym e)
split_last [] m (f ∷ []) (r ∷ rest) e = absurd cc
split_last [] m (f ∷ g ∷ front) rest e = absurd cc
split_last (x ∷ ms) m (f ∷ front) rest e =
    let tail : ms ++ m ∷ [] ≡ front ++ rest = cc in
    let head : x ≡ f = cc in
    elim (split_last ms m front rest tail) [ inl h ↦ inl cc | inr h ↦ inr (h.0, let parts = h.1 in cc) ]
