-- Lists that are gone over from the front, with the names of the elements before.
use Rattle.std.proofs.Common.{◌≡◌, ℕ, suc, ◌+◌, ◌<◌, get_or, List, [], ◌∷◌, ◌++◌, map, length, take, drop, sym, ap, ◌∙◌, arith}
use Rattle.std.proofs.Math.Seq.{take-length}
use Rattle.std.proofs.Math.Seq.{drop-cons}
use Rattle.std.proofs.lemmas.List.{map_more, drop_all}

-- the elements from one on
pub from_one : {X : Type 0} → (xs : List X) (i : ℕ) (x : X) → i < length xs → x ≡ get_or xs i x → drop i xs ≡ x ∷ drop (i + 1) xs
from_one xs i x h is =
    let e : suc i ≡ i + 1 = omega arith in
    drop-cons xs i x h ∙ ap (λ y. y ∷ drop (suc i) xs) (sym is) ∙ ap (λ k. x ∷ drop k xs) e

-- behind the last one
pub past : {X : Type 0} → (xs : List X) (i : ℕ) → i ≡ length xs → drop i xs ≡ []
past xs i e = drop_all i xs (omega arith)

-- the names of the first elements, one more
pub names_more : {X : Type 0} → (f : X → List ℕ) (xs : List X) (i : ℕ) (x : X) → i < length xs → x ≡ get_or xs i x →
    map f (take (i + 1) xs) ≡ map f (take i xs) ++ f x ∷ []
names_more f xs i x h is = map_more f xs i x h ∙ ap (λ y. map f (take i xs) ++ f y ∷ []) (sym is)

-- what each of the first elements becomes, one more
pub mapped : {X Y : Type 0} → (f : X → Y) (xs : List X) (i : ℕ) (x : X) (items new : List Y) → i < length xs → x ≡ get_or xs i x →
    items ≡ map f (take i xs) → new ≡ items ++ f x ∷ [] → new ≡ map f (take (i + 1) xs)
mapped f xs i x items new h is e more =
    more ∙ ap (λ ys. ys ++ f x ∷ []) e ∙ ap (λ y. map f (take i xs) ++ f y ∷ []) is ∙ sym (map_more f xs i x h)

-- what all become
pub all_mapped : {X Y : Type 0} → (f : X → Y) (xs : List X) (i : ℕ) (items : List Y) → i ≡ length xs → items ≡ map f (take i xs) → items ≡ map f xs
all_mapped f xs i items end e = e ∙ ap (λ n. map f (take n xs)) end ∙ ap (map f) (take-length xs)
