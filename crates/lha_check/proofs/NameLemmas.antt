-- The names of elements of a list: whether one is among them, and at which place.
use Rattle.std.proofs.Common.{◌≡◌, ℕ, suc, ◌+◌, ◌<◌, ◌≤◌, List, [], ◌∷◌, ◌++◌, map, length, Bool, true, false, ◌||◌, not, cond, if◌then◌else◌, Some, None, refl, sym, ap, ◌∙◌, arith, bytes_eq}
use Rattle.std.specs.Prelude.{nat_lt}
use Rattle.std.specs.List.{list_any, position, position_or_len}
use Rattle.std.proofs.lemmas.Bool.{ltb-true, ltb-false}
use Rattle.model_specs.specs.Constraints.{place_in}
use Rattle.model_specs.specs.Faults.{RepeatedName, UnknownName, is_among, if_so, repeated, unknown}

module _ {X : Type 0} (f : X → List ℕ) where
  pub among_names : (xs : List X) (name : List ℕ) → is_among (map f xs) name ≡ list_any (λ x. bytes_eq (f x) name) xs
  among_names [] name = refl
  among_names (x ∷ xs) name = ap (λ b. bytes_eq (f x) name || b) (among_names xs name)

  pub stood_is : (xs : List X) (name : List ℕ) (stood : Bool) (line : ℕ) → stood ≡ list_any (λ x. bytes_eq (f x) name) xs →
      if_so stood (RepeatedName line name) ≡ repeated line (map f xs) name
  stood_is xs name stood line e = ap (λ b. if_so b (RepeatedName line name)) (e ∙ sym (among_names xs name))

  -- the name of an element, unknown or repeated
  pub named_is : (before : List X) (x : X) (name : List ℕ) (stood : Bool) (line : ℕ) (vars : List (List ℕ)) → name ≡ f x →
      stood ≡ list_any (λ y. bytes_eq (f y) name) before →
      unknown line vars name ++ if_so stood (RepeatedName line name) ≡ unknown line vars (f x) ++ repeated line (map f before) (f x)
  named_is before x name stood line vars same e =
      ap (λ zs. unknown line vars name ++ zs) (stood_is before name stood line e) ∙ ap (λ n. unknown line vars n ++ repeated line (map f before) n) same

  pub repeats_is : (before : List X) (x : X) (name : List ℕ) (stood : Bool) (told line : ℕ) → told ≡ line → name ≡ f x →
      stood ≡ list_any (λ y. bytes_eq (f y) name) before → if_so stood (RepeatedName told name) ≡ repeated line (map f before) (f x)
  repeats_is before x name stood told line there same e =
      stood_is before name stood told e ∙ ap (λ n. repeated told (map f before) n) same ∙ ap (λ n. repeated n (map f before) (f x)) there

-- ---- places

next_place : (b : Bool) (p q : ℕ) → p ≡ q → (if b then 0 else suc p) ≡ cond (not b) (1 + q) 0
next_place true p q e = refl
next_place false p q e = omega (arith, e)

module _ {X : Type 0} (f : X → List ℕ) where
  pub place_is : (xs : List X) (name : List ℕ) → place_in (map f xs) name ≡ position_or_len (λ x. bytes_eq (f x) name) xs
  place_is [] name = refl
  place_is (x ∷ xs) name = next_place (bytes_eq (f x) name) (place_in (map f xs) name) (position_or_len (λ y. bytes_eq (f y) name) xs) (place_is xs name)

some_next : (b : Bool) (q n : ℕ) (any : Bool) → (q < n → any ≡ true) → cond (not b) (1 + q) 0 < suc n → (b || any) ≡ true
some_next true q n any k h = refl
some_next false q n any k h = k (omega (arith, h))

none_next : (b : Bool) (q n : ℕ) (any : Bool) → (n ≤ q → any ≡ false) → suc n ≤ cond (not b) (1 + q) 0 → (b || any) ≡ false
none_next true q n any k h = absurd (let h1 : suc n ≤ 0 = h in let b : ⊥ = omega (arith, h1) in b)
none_next false q n any k h = k (omega (arith, h))

module _ {X : Type 0} (p : X → Bool) where
  some_before : (xs : List X) → position_or_len p xs < length xs → list_any p xs ≡ true
  some_before [] h = absurd (let h1 : 0 < 0 = h in let b : ⊥ = omega (arith, h1) in b)
  some_before (x ∷ xs) h = some_next (p x) (position_or_len p xs) (length xs) (list_any p xs) (some_before xs) h

  none_before : (xs : List X) → length xs ≤ position_or_len p xs → list_any p xs ≡ false
  none_before [] h = refl
  none_before (x ∷ xs) h = none_next (p x) (position_or_len p xs) (length xs) (list_any p xs) (none_before xs) h

  found_by : (b : Bool) (q k : ℕ) → cond b (Some q) None ≡ Some k → (b ≡ true) × (k ≡ q)
  found_by true q k e = (refl, let s : k ≡ q = cc in s)
  found_by false q k e = absurd (let b : ⊥ = cc in b)

  missed_by : (b : Bool) (q : ℕ) → cond b (Some q) None ≡ None → b ≡ false
  missed_by true q e = absurd (let b : ⊥ = cc in b)
  missed_by false q e = refl

  pub found_place : (xs : List X) (k : ℕ) → position p xs ≡ Some k → (list_any p xs ≡ true) × (k ≡ position_or_len p xs) × (k < length xs)
  found_place xs k e =
      let both = found_by (nat_lt (position_or_len p xs) (length xs)) (position_or_len p xs) k e in
      let within = ltb-true (position_or_len p xs) (length xs) both.0 in
      let same = both.1 in
      (some_before xs within, same, omega (arith, within, same))

  pub no_place : (xs : List X) → position p xs ≡ None → list_any p xs ≡ false
  no_place xs e =
      none_before xs (ltb-false (position_or_len p xs) (length xs) (missed_by (nat_lt (position_or_len p xs) (length xs)) (position_or_len p xs) e))

module _ {X : Type 0} (f : X → List ℕ) where
  pub known_at : (xs : List X) (name : List ℕ) (line : ℕ) → list_any (λ x. bytes_eq (f x) name) xs ≡ true → unknown line (map f xs) name ≡ []
  known_at xs name line e = ap (λ b. if_so (not b) (UnknownName line name)) (among_names f xs name ∙ e)

  pub unknown_at : (xs : List X) (name : List ℕ) (line : ℕ) → list_any (λ x. bytes_eq (f x) name) xs ≡ false → unknown line (map f xs) name ≡ UnknownName line name ∷ []
  unknown_at xs name line e = ap (λ b. if_so (not b) (UnknownName line name)) (among_names f xs name ∙ e)
