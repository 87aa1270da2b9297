-- Rows that are among others stay so under elimination, and so do the numbers formed.
use Rattle.std.proofs.Common.{◌≡◌, ℕ, Bool, true, false, cond, List, [], ◌∷◌, ◌++◌, map, filter, refl, sym, ◌∙◌, ap, subst, ◌⊎◌, inl, inr}
use Rattle.std.specs.List.{flat_map}
use Rattle.poly_specs.specs.Elimination.{eliminated, eliminated_each, formed, formed_each, combination, pair_numbers}
use Rattle.poly_specs.specs.Lists.{In, IsAmong}
use Rattle.poly_specs.specs.Rows.{Row}

module _ {A : Type 0} where
  pub in_left : (x : A) (xs ys : List A) → In x xs → In x (xs ++ ys)
  in_left x [] ys h = absurd h
  in_left x (z ∷ xs) ys (inl e) = inl e
  in_left x (z ∷ xs) ys (inr h) = inr (in_left x xs ys h)

  pub in_right : (x : A) (xs ys : List A) → In x ys → In x (xs ++ ys)
  in_right x [] ys h = h
  in_right x (z ∷ xs) ys h = inr (in_right x xs ys h)

  pub in_either : (x : A) (xs ys : List A) → In x (xs ++ ys) → In x xs ⊎ In x ys
  in_either x [] ys h = inr h
  in_either x (z ∷ xs) ys (inl e) = inl (inl e)
  in_either x (z ∷ xs) ys (inr h) = elim (in_either x xs ys h) [ inl i ↦ inl (inr i) | inr i ↦ inr i ]

  pub among_append : (xs xs' ys ys' : List A) → IsAmong xs xs' → IsAmong ys ys' → IsAmong (xs ++ ys) (xs' ++ ys')
  among_append xs xs' ys ys' f g x h =
      elim (in_either x xs ys h) [ inl i ↦ in_left x xs' ys' (f x i) | inr i ↦ in_right x xs' ys' (g x i) ]

  pub in_filter : (p : A → Bool) (x : A) (xs : List A) → In x xs → p x ≡ true → In x (filter p xs)
  in_filter p x [] h t = absurd h
  in_filter p x (y ∷ xs) (inl e) t = here (p y) (ap p (sym e) ∙ t)
    where
      here : (b : Bool) → b ≡ true → In x (cond b (y ∷ filter p xs) (filter p xs))
      here true e' = inl e
      here false e' = cc
  in_filter p x (y ∷ xs) (inr h) t = there (p y) (in_filter p x xs h t)
    where
      there : (b : Bool) → In x (filter p xs) → In x (cond b (y ∷ filter p xs) (filter p xs))
      there true i = inr i
      there false i = i

  pub out_filter : (p : A → Bool) (x : A) (xs : List A) → In x (filter p xs) → In x xs × (p x ≡ true)
  out_filter p x [] h = absurd h
  out_filter p x (y ∷ xs) h = go (p y) refl (out_filter p x xs) h
    where
      go : (b : Bool) → p y ≡ b → (In x (filter p xs) → In x xs × (p x ≡ true)) → In x (cond b (y ∷ filter p xs) (filter p xs)) → In x (y ∷ xs) × (p x ≡ true)
      go true e rec (inl f) = (inl f, ap p f ∙ e)
      go true e rec (inr i) = let r = rec i in (inr r.0, r.1)
      go false e rec i = let r = rec i in (inr r.0, r.1)

  pub among_filter : (p : A → Bool) (xs ys : List A) → IsAmong xs ys → IsAmong (filter p xs) (filter p ys)
  among_filter p xs ys f x h = let r = out_filter p x xs h in in_filter p x ys (f x r.0) r.1

module _ {A B : Type 0} where
  pub in_flat_map : (f : A → List B) (y : A) (b : B) (ys : List A) → In y ys → In b (f y) → In b (flat_map f ys)
  in_flat_map f y b [] h i = absurd h
  in_flat_map f y b (z ∷ ys) (inl e) i = in_left b (f z) (flat_map f ys) (subst (λ w. In b (f w)) e i)
  in_flat_map f y b (z ∷ ys) (inr h) i = in_right b (f z) (flat_map f ys) (in_flat_map f y b ys h i)

  pub among_flat_map : (f g : A → List B) (xs ys : List A) → IsAmong xs ys → ((x : A) → IsAmong (f x) (g x)) → IsAmong (flat_map f xs) (flat_map g ys)
  among_flat_map f g [] ys h k b i = absurd i
  among_flat_map f g (x ∷ xs) ys h k b i = elim (in_either b (f x) (flat_map f xs) i) [
    | inl j ↦ in_flat_map g x b ys (h x (inl refl)) (k x b j)
    | inr j ↦ among_flat_map f g xs ys (λ z m. h z (inr m)) k b j
  ]

  pub among_map : (f : A → B) (xs ys : List A) → IsAmong xs ys → IsAmong (map f xs) (map f ys)
  among_map f [] ys h b i = absurd i
  among_map f (x ∷ xs) ys h b (inl e) = at f x b ys (h x (inl refl)) e
    where
      at : (f : A → B) (x : A) (b : B) (ys : List A) → In x ys → b ≡ f x → In b (map f ys)
      at f x b [] h e = absurd h
      at f x b (y ∷ ys) (inl d) e = inl (e ∙ ap f d)
      at f x b (y ∷ ys) (inr i) e = inr (at f x b ys i e)
  among_map f (x ∷ xs) ys h b (inr i) = among_map f xs ys (λ z m. h z (inr m)) b i

pub among_eliminated : (x : ℕ) (rows more : List Row) → IsAmong rows more → IsAmong (eliminated x rows) (eliminated x more)
unfolding eliminated
among_eliminated x rows more h =
    among_append _ _ _ _ (among_filter _ rows more h)
    (among_flat_map _ _ _ _ (among_filter _ rows more h) (λ lower. among_map (combination x lower) _ _ (among_filter _ rows more h)))

pub among_formed : (x : ℕ) (rows more : List Row) → IsAmong rows more → IsAmong (formed x rows) (formed x more)
unfolding formed
among_formed x rows more h =
    among_flat_map _ _ _ _ (among_filter _ rows more h) (λ lower. among_flat_map (pair_numbers x lower) (pair_numbers x lower) _ _ (among_filter _ rows more h) (λ upper n i. i))

-- of several columns
pub among_formed_each : (columns : List ℕ) (rows more : List Row) → IsAmong rows more → IsAmong (formed_each columns rows) (formed_each columns more)
among_formed_each [] rows more h = λ x i. i
among_formed_each (x ∷ columns) rows more h =
    among_append _ _ _ _ (among_formed x rows more h)
    (among_formed_each columns (eliminated x rows) (eliminated x more) (among_eliminated x rows more h))

pub among_eliminated_each : (columns : List ℕ) (rows more : List Row) → IsAmong rows more → IsAmong (eliminated_each columns rows) (eliminated_each columns more)
among_eliminated_each [] rows more h = h
among_eliminated_each (x ∷ columns) rows more h =
    among_eliminated_each columns (eliminated x rows) (eliminated x more) (among_eliminated x rows more h)
