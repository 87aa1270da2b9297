-- The first element that passes a test, and the place of a name.
use Rattle.std.proofs.Common.{◌≡◌, ℕ, zero, suc, ◌+◌, ◌<◌, get_or, List, [], ◌∷◌, Bool, true, false, length, drop, Some, None, refl, sym, ◌∙◌, ap, arith, bytes_eq}
use Rattle.std.specs.List.{find}
use Rattle.std.proofs.Math.Seq.{drop-cons}
use Rattle.model_specs.specs.Constraints.{place_in}

-- the elements from one on
pub from_one : {X : Type 0} → (xs : List X) (i : ℕ) (x : X) → i < length xs → x ≡ get_or xs i x → drop i xs ≡ x ∷ drop (i + 1) xs
from_one xs i x h is =
    let e : suc i ≡ i + 1 = omega arith in
    drop-cons xs i x h ∙ ap (λ y. y ∷ drop (suc i) xs) (sym is) ∙ ap (λ k. x ∷ drop k xs) e

pub none_left : {X : Type 0} → (xs : List X) (i : ℕ) → i ≡ length xs → drop i xs ≡ []
none_left xs i e = ap (λ k. drop k xs) e ∙ past xs
  where
    past : {X : Type 0} → (xs : List X) → drop (length xs) xs ≡ []
    past [] = refl
    past (x ∷ xs) = past xs

pub found : {X : Type 0} → (p : X → Bool) (xs : List X) (i : ℕ) (x : X) → i < length xs → x ≡ get_or xs i x → p x ≡ true → find p (drop i xs) ≡ Some x
found p xs i x h is t = ap (find p) (from_one xs i x h is) ∙ here (drop (i + 1) xs)
  where
    here : (ys : List _) → find p (x ∷ ys) ≡ Some x
    here ys = rw t refl

pub passed : {X : Type 0} → (p : X → Bool) (xs : List X) (i : ℕ) (x : X) → i < length xs → x ≡ get_or xs i x → p x ≡ false →
    find p (drop i xs) ≡ find p (drop (i + 1) xs)
passed p xs i x h is t = ap (find p) (from_one xs i x h is) ∙ past (drop (i + 1) xs)
  where
    past : (ys : List _) → find p (x ∷ ys) ≡ find p ys
    past ys = rw t refl

pub not_found : {X : Type 0} → (p : X → Bool) (xs : List X) (i : ℕ) → i ≡ length xs → find p (drop i xs) ≡ None
not_found p xs i e = ap (find p) (none_left xs i e)

-- ---- the place of a name

pub place_here : (names : List (List ℕ)) (name : List ℕ) (i : ℕ) (x : List ℕ) → i < length names → x ≡ get_or names i x → bytes_eq x name ≡ true →
    place_in (drop i names) name ≡ 0
place_here names name i x h is t = ap (λ xs. place_in xs name) (from_one names i x h is) ∙ rw t refl

pub place_past : (names : List (List ℕ)) (name : List ℕ) (i : ℕ) (x : List ℕ) → i < length names → x ≡ get_or names i x → bytes_eq x name ≡ false →
    place_in (drop i names) name ≡ suc (place_in (drop (i + 1) names) name)
place_past names name i x h is t = ap (λ xs. place_in xs name) (from_one names i x h is) ∙ rw t refl

pub place_end : (names : List (List ℕ)) (name : List ℕ) (i : ℕ) → i ≡ length names → place_in (drop i names) name ≡ 0
place_end names name i e = ap (λ xs. place_in xs name) (none_left names i e)

-- an element within a list, whatever else would stand past its end
pub get_or_same : {X : Type 0} → (xs : List X) (i : ℕ) (d e : X) → i < length xs → get_or xs i d ≡ get_or xs i e
get_or_same [] i d e h = absurd (omega arith)
get_or_same (x ∷ xs) zero d e h = refl
get_or_same (x ∷ xs) (suc i) d e h = get_or_same xs i d e (omega arith)
