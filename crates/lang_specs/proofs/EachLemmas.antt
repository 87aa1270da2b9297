-- What holds of each element of a list.
use Rattle.std.proofs.Common.{◌≡◌, Bool, true, false, ◌&&◌, List, [], ◌∷◌, ◌++◌, map, refl}
use Rattle.std.specs.Bool.{⊤}
use Rattle.std.specs.List.{flat_map, list_all}
use Rattle.lang_specs.proofs.SplitLemmas.{both_left, both_right}

abbrev pub Each : {X : Type 0} → (X → Type 0) → List X → Type 0
Each P [] = ⊤
Each P (x ∷ xs) = P x × Each P xs

module _ {X : Type 0} (P : X → Type 0) where
  pub each_append : (xs ys : List X) → Each P xs → Each P ys → Each P (xs ++ ys)
  each_append [] ys h k = k
  each_append (x ∷ xs) ys h k = (h.0, each_append xs ys h.1 k)

  pub each_front : (xs ys : List X) → Each P (xs ++ ys) → Each P xs
  each_front [] ys h = tt
  each_front (x ∷ xs) ys h = (h.0, each_front xs ys h.1)

  pub each_rest : (xs ys : List X) → Each P (xs ++ ys) → Each P ys
  each_rest [] ys h = h
  each_rest (x ∷ xs) ys h = each_rest xs ys h.1

  pub each_of_map : {A : Type 0} (f : A → X) (xs : List A) → Each P (map f xs) → Each (λ a. P (f a)) xs
  each_of_map f [] h = tt
  each_of_map f (x ∷ xs) h = (h.0, each_of_map f xs h.1)

  pub each_in_map : {A : Type 0} (f : A → X) (xs : List A) → Each (λ a. P (f a)) xs → Each P (map f xs)
  each_in_map f [] h = tt
  each_in_map f (x ∷ xs) h = (h.0, each_in_map f xs h.1)

  pub each_of_flat : {A : Type 0} (f : A → List X) (xs : List A) → Each P (flat_map f xs) → Each (λ a. Each P (f a)) xs
  each_of_flat f [] h = tt
  each_of_flat f (x ∷ xs) h = (each_front (f x) (flat_map f xs) h, each_of_flat f xs (each_rest (f x) (flat_map f xs) h))

  pub each_from : ((x : X) → P x) → (xs : List X) → Each P xs
  each_from f [] = tt
  each_from f (x ∷ xs) = (f x, each_from f xs)

  pub each_to : (Q : X → Type 0) → ((x : X) → P x → Q x) → (xs : List X) → Each P xs → Each Q xs
  each_to Q f [] h = tt
  each_to Q f (x ∷ xs) h = (f x h.0, each_to Q f xs h.1)

-- a test of all elements, and of each
pub each_of_all : {X : Type 0} (p : X → Bool) (xs : List X) → list_all p xs ≡ true → Each (λ x. p x ≡ true) xs
each_of_all p [] h = tt
each_of_all p (x ∷ xs) h = (both_left (p x) (list_all p xs) h, each_of_all p xs (both_right (p x) (list_all p xs) h))

pub both : (a b : Bool) → a ≡ true → b ≡ true → (a && b) ≡ true
both true b h k = k
both false b h k = h

pub all_of_each : {X : Type 0} (p : X → Bool) (xs : List X) → Each (λ x. p x ≡ true) xs → list_all p xs ≡ true
all_of_each p [] h = refl
all_of_each p (x ∷ xs) h = both (p x) (list_all p xs) h.0 (all_of_each p xs h.1)
