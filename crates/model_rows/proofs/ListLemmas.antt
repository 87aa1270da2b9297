-- Lists that grow by what each further element gives.
use Rattle.std.proofs.Common.{◌≡◌, ℕ, suc, ◌+◌, ◌<◌, get_or, List, [], ◌∷◌, ◌++◌, map, length, take, refl, sym, ◌∙◌, ap, arith, append_assoc}
use Rattle.std.specs.List.{flat_map}
use Rattle.std.proofs.Math.Seq.{take-length}
use Rattle.std.proofs.lemmas.Grind.{flat_map-append}
use Rattle.std.proofs.lemmas.List.{take_more, map-append, append-nil}
use Rattle.run_specs.specs.Stages.{below}

-- the first elements, one more
pub next : {X : Type 0} → (xs : List X) (i : ℕ) (x : X) → i < length xs → x ≡ get_or xs i x → take (i + 1) xs ≡ take i xs ++ x ∷ []
next xs i x h is = take_more xs i x h ∙ ap (λ y. take i xs ++ y ∷ []) (sym is)

-- all of them
pub whole : {X : Type 0} → (xs : List X) (i : ℕ) → i ≡ length xs → take i xs ≡ xs
whole xs i e = ap (λ n. take n xs) e ∙ take-length xs

pub took : {X : Type 0} → (xs : List X) (i : ℕ) (x : X) (old items new : List X) → i < length xs → x ≡ get_or xs i x →
    items ≡ old ++ take i xs → new ≡ items ++ x ∷ [] → new ≡ old ++ take (i + 1) xs
took xs i x old items new h is e more =
    more ∙ ap (λ ys. ys ++ x ∷ []) e ∙ append_assoc old (take i xs) (x ∷ []) ∙ ap (λ ys. old ++ ys) (sym (next xs i x h is))

pub gathered : {X Y : Type 0} → (f : X → List Y) (xs : List X) (i : ℕ) (x : X) (old items new : List Y) → i < length xs → x ≡ get_or xs i x →
    items ≡ old ++ flat_map f (take i xs) → new ≡ items ++ f x → new ≡ old ++ flat_map f (take (i + 1) xs)
gathered f xs i x old items new h is e more =
    more ∙ ap (λ ys. ys ++ f x) e ∙ append_assoc old (flat_map f (take i xs)) (f x)
    ∙ ap (λ ys. old ++ (flat_map f (take i xs) ++ ys)) (sym (append-nil (f x)))
    ∙ ap (λ ys. old ++ ys) (sym (flat_map-append f (take i xs) (x ∷ []))) ∙ ap (λ ys. old ++ flat_map f ys) (sym (next xs i x h is))

pub map_map : {X Y Z : Type 0} → (f : X → Y) (g : Y → Z) (xs : List X) → map (λ x. g (f x)) xs ≡ map g (map f xs)
map_map f g [] = refl
map_map f g (x ∷ xs) = ap (λ ys. g (f x) ∷ ys) (map_map f g xs)

-- ---- over the numbers below one

pub below_more : (n : ℕ) → below (n + 1) ≡ below n ++ n ∷ []
below_more n = let e : n + 1 ≡ suc n = omega arith in ap below e

pub mapped_below : {Y : Type 0} → (f : ℕ → Y) (n : ℕ) (items new : List Y) → items ≡ map f (below n) → new ≡ items ++ f n ∷ [] → new ≡ map f (below (n + 1))
mapped_below f n items new e more =
    more ∙ ap (λ ys. ys ++ f n ∷ []) e ∙ sym (map-append f (below n) (n ∷ [])) ∙ ap (map f) (sym (below_more n))

pub flat_below : {Y : Type 0} → (f : ℕ → List Y) (n : ℕ) → flat_map f (below (n + 1)) ≡ flat_map f (below n) ++ f n
flat_below f n =
    ap (flat_map f) (below_more n) ∙ flat_map-append f (below n) (n ∷ []) ∙ ap (λ ys. flat_map f (below n) ++ ys) (append-nil (f n))

pub gathered_below : {Y : Type 0} → (f : ℕ → List Y) (n : ℕ) (old items new : List Y) → items ≡ old ++ flat_map f (below n) → new ≡ items ++ f n →
    new ≡ old ++ flat_map f (below (n + 1))
gathered_below f n old items new e more =
    more ∙ ap (λ ys. ys ++ f n) e ∙ append_assoc old (flat_map f (below n)) (f n) ∙ ap (λ ys. old ++ ys) (sym (flat_below f n))
