-- Where one thing ends and the next begins in a list of tokens.
use Rattle.std.proofs.Common.{◌≡◌, Bool, ◌&&◌, true, false, not, List, [], ◌∷◌, ◌++◌, refl, sym, ap, ◌∙◌, subst}
use Rattle.std.specs.Bool.{⊤}
use Rattle.std.proofs.lemmas.List.{append_cancel_left}
use Rattle.lang_specs.specs.declared.Kind.{Kind}
use Rattle.lang_specs.specs.Marks.{Mark}
use Rattle.lang_specs.specs.Limits.{has_few_digits}
use Rattle.lang_specs.proofs.ListLemmas.{head_is, tail_is}

-- ---- what is said of tokens

-- no literal of these has too many digits
abbrev pub AreRead : List Mark → Type 0
AreRead [] = ⊤
AreRead (m ∷ ms) = (has_few_digits m.kind m.text ≡ true) × AreRead ms

-- all are of these kinds
abbrev pub AllIn : (Kind → Bool) → List Mark → Type 0
AllIn these [] = ⊤
AllIn these (m ∷ ms) = (these m.kind ≡ true) × AllIn these ms

-- there is a first, and it is of these kinds
abbrev pub HeadIn : (Kind → Bool) → List Mark → Type 0
HeadIn these [] = ⊥
HeadIn these (m ∷ ms) = these m.kind ≡ true

-- there is none, or the first is of these kinds
abbrev pub Closed : (Kind → Bool) → List Mark → Type 0
Closed ends [] = ⊤
Closed ends (m ∷ ms) = ends m.kind ≡ true

-- two ways to split a list into a thing and a rest are one
pub record Same {X : Type 0} (front other rest after : List Mark) (x y : X) : Type 0 where
  pub fronts : front ≡ other
  pub rests : rest ≡ after
  pub things : x ≡ y

-- a thing that begins a list, and its tokens, are told by the list, where what stands behind it is of these kinds
abbrev pub Splits : {X : Type 0} → (Kind → Bool) → (List Mark → X → Type 0) → Type 0
Splits {X} ends Is =
    (front other rest after : List Mark) (x y : X) → Is front x → Is other y → AreRead front → Closed ends rest → Closed ends after →
    front ++ rest ≡ other ++ after → Same front other rest after x y

-- ---- lists

pub apart : {A : Type 0} → true ≡ false → A
apart e = absurd (let b : ⊥ = cc in b)

pub both_left : (a b : Bool) → (a && b) ≡ true → a ≡ true
both_left true b e = refl
both_left false b e = e

pub both_right : (a b : Bool) → (a && b) ≡ true → b ≡ true
both_right true b e = e
both_right false b e = apart (sym e)

pub same_of : {X : Type 0} (front other rest after : List Mark) (x y : X) → front ≡ other → front ++ rest ≡ other ++ after → x ≡ y →
    Same front other rest after x y
same_of front other rest after x y f e t = record {
  fronts = f;
  rests = append_cancel_left other rest after (subst (λ z. z ++ rest ≡ other ++ after) f e);
  things = t;
}

pub read_front : (xs ys : List Mark) → AreRead (xs ++ ys) → AreRead xs
read_front [] ys h = tt
read_front (x ∷ xs) ys h = (h.0, read_front xs ys h.1)

pub read_rest : (xs ys : List Mark) → AreRead (xs ++ ys) → AreRead ys
read_rest [] ys h = h
read_rest (x ∷ xs) ys h = read_rest xs ys h.1

pub head_front : (these : Kind → Bool) (xs ys : List Mark) → HeadIn these xs → HeadIn these (xs ++ ys)
head_front these [] ys h = absurd h
head_front these (x ∷ xs) ys h = h

pub all_append : (these : Kind → Bool) (xs ys : List Mark) → AllIn these xs → AllIn these ys → AllIn these (xs ++ ys)
all_append these [] ys h k = k
all_append these (x ∷ xs) ys h k = (h.0, all_append these xs ys h.1 k)

-- ---- splits by kinds

-- what begins with these kinds is not closed by others
pub open_closed : (these ends : Kind → Bool) (xs ys : List Mark) → ((k : Kind) → these k ≡ true → ends k ≡ false) → HeadIn these xs →
    Closed ends ys → xs ≡ ys → ⊥
open_closed these ends [] ys out h c e = h
open_closed these ends (x ∷ xs) [] out h c e = let b : ⊥ = cc in b
open_closed these ends (x ∷ xs) (y ∷ ys) out h c e =
    let same : ends x.kind ≡ ends y.kind = ap (λ m. ends m.kind) (head_is x y xs ys e) in
    apart (sym c ∙ sym same ∙ out x.kind h)

not_both : (these : Kind → Bool) (k : Kind) → these k ≡ true → not (these k) ≡ false
not_both these k h = ap not h

pub class_ends : (these : Kind → Bool) (front other rest after : List Mark) → AllIn these front → AllIn these other →
    Closed (λ k. not (these k)) rest → Closed (λ k. not (these k)) after → front ++ rest ≡ other ++ after → front ≡ other
class_ends these [] [] rest after h k c d e = refl
class_ends these [] (y ∷ ys) rest after h k c d e =
    absurd (open_closed these (λ z. not (these z)) (y ∷ ys ++ after) rest (not_both these) k.0 c (sym e))
class_ends these (x ∷ xs) [] rest after h k c d e =
    absurd (open_closed these (λ z. not (these z)) (x ∷ xs ++ rest) after (not_both these) h.0 d e)
class_ends these (x ∷ xs) (y ∷ ys) rest after h k c d e =
    let first = head_is x y (xs ++ rest) (ys ++ after) e in
    let others = class_ends these xs ys rest after h.1 k.1 c d (tail_is x y (xs ++ rest) (ys ++ after) e) in
    cc
