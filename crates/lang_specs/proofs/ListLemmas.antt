-- Two ways to cut one list.
use Rattle.std.proofs.Common.{◌≡◌, ◌⊎◌, inl, inr, List, [], ◌∷◌, ◌++◌, refl}

-- the list begins with this front
pub record Begins {A : Type 0} (front whole : List A) : Type 0 where
  pub more : List A
  pub parts : whole ≡ front ++ more

-- with the same front the same element follows, or else the longer front begins with the shorter one and what follows it
abbrev pub CutAlike : {A : Type 0} (xs ys : List A) (x y : A) → Type 0
CutAlike xs ys x y = ((xs ≡ ys) × (x ≡ y)) ⊎ (Begins (xs ++ x ∷ []) ys ⊎ Begins (ys ++ y ∷ []) xs)

module _ {A : Type 0} where
  pub head_is : (x y : A) (xs ys : List A) → x ∷ xs ≡ y ∷ ys → x ≡ y
  head_is x y xs ys e = cc

  pub tail_is : (x y : A) (xs ys : List A) → x ∷ xs ≡ y ∷ ys → xs ≡ ys
  tail_is x y xs ys e = cc

  with_head : (w z : A) (xs ys : List A) (x y : A) → w ≡ z → CutAlike xs ys x y → CutAlike (w ∷ xs) (z ∷ ys) x y
  with_head w z xs ys x y e (inl h) = inl (let f = h.0 in cc, h.1)
  with_head w z xs ys x y e (inr (inl h)) = inr (inl (record { more = h.more; parts = let f = h.parts in cc }))
  with_head w z xs ys x y e (inr (inr h)) = inr (inr (record { more = h.more; parts = let f = h.parts in cc }))

  pub cut_alike : (xs ys : List A) (x y : A) (us vs : List A) → xs ++ x ∷ us ≡ ys ++ y ∷ vs → CutAlike xs ys x y
  cut_alike [] [] x y us vs e = inl (refl, head_is x y us vs e)
  cut_alike [] (z ∷ ys) x y us vs e = inr (inl (record { more = ys; parts = let f = head_is x z us (ys ++ y ∷ vs) e in cc }))
  cut_alike (w ∷ xs) [] x y us vs e = inr (inr (record { more = xs; parts = let f = head_is w y (xs ++ x ∷ us) vs e in cc }))
  cut_alike (w ∷ xs) (z ∷ ys) x y us vs e =
      with_head w z xs ys x y (head_is w z (xs ++ x ∷ us) (ys ++ y ∷ vs) e) (cut_alike xs ys x y us vs (tail_is w z (xs ++ x ∷ us) (ys ++ y ∷ vs) e))
