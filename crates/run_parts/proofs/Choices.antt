-- Lists of numbers that agree up to a place, and picks of equal sets.
use Rattle.std.proofs.Common.{◌≡◌, ◌⊎◌, inl, inr, ℕ, zero, suc, ◌+◌, ◌<◌, ◌≤◌, List, [], ◌∷◌, ◌++◌, length, get_or, refl, sym, ◌∙◌, ap, subst, arith, ℤ, pos, ◌*ℤ◌, ◌<ℤ◌}
use Rattle.std.specs.List.{AllZip}
use Rattle.std.proofs.lemmas.List.{get_or_append_left, get_or-append-add, get_or-map, map-append}
use Rattle.poly_specs.proofs.ColumnLemmas.{point-from_coordinates}
use Rattle.poly_specs.proofs.PickLemmas.{are_fractions}
use Rattle.run_specs.proofs.FirstRunExists.{same-through}
use Rattle.run_specs.proofs.PickedLemmas.{AllFractions, fraction_at}
use Rattle.run_specs.proofs.PickedValues.{zip_at}
use Rattle.poly_specs.specs.Lists.{scaled}
use Rattle.poly_specs.specs.Fractions.{Fraction, IsFraction, SameFraction, fractions, zero_fraction}
use Rattle.poly_specs.specs.Rows.{over, coordinate, SamePoint}
use Rattle.poly_specs.specs.Picks.{IsNearestInteger, HasNoInteger, HasEnds, AreEnds, IsEndPick, IsPick}

-- ---- picks of equal sets

-- the sets have the same fractions
abbrev pub AreEqual : (Fraction → Type 0) → (Fraction → Type 0) → Type 0
AreEqual S T = ((v : Fraction) → IsFraction v → S v → T v) × ((v : Fraction) → IsFraction v → T v → S v)

pub pick_of_equal : (S T : Fraction → Type 0) (x : Fraction) → AreEqual S T → IsPick S x → IsPick T x
pick_of_equal S T x same pick = record {
  positive = pick.positive;
  some = (pick.some.0, pick.some.1, same.0 pick.some.0 pick.some.1 pick.some.2);
  kind = go pick.kind;
}
  where
    has_ends : (low high : Fraction) → HasEnds S low high → HasEnds T low high
    has_ends low high h = record {
      low_is = h.low_is;
      high_is = h.high_is;
      ordered = h.ordered;
      outside = λ y hy t. h.outside y hy (same.1 y hy t);
      between = λ y hy f g. same.0 y hy (h.between y hy f g);
    }

    are_ends : (near far : Fraction) → AreEnds S near far → AreEnds T near far
    are_ends near far (inl h) = inl (h.0, has_ends near far h.1)
    are_ends near far (inr h) = inr (h.0, has_ends far near h.1)

    end_pick : (near far : Fraction) → IsFraction near × IsFraction far → IsEndPick S near far x → IsEndPick T near far x
    end_pick near far h (inl p) = inl (same.0 near h.0 p.0, p.1)
    end_pick near far h (inr (inl p)) = inr (inl (λ t. p.0 (same.1 near h.0 t), same.0 far h.1 p.1, p.2))
    end_pick near far h (inr (inr p)) = inr (inr (λ t. p.0 (same.1 near h.0 t), λ t. p.1 (same.1 far h.1 t), p.2))

    go : IsNearestInteger S x ⊎ (HasNoInteger S × ((near far : Fraction) × AreEnds S near far × IsEndPick S near far x)) →
        IsNearestInteger T x ⊎ (HasNoInteger T × ((near far : Fraction) × AreEnds T near far × IsEndPick T near far x))
    go (inl i) = inl (record { inside = same.0 x pick.positive i.inside; integer = i.integer; nearest = λ y hy t n. i.nearest y hy (same.1 y hy t) n })
    go (inr (none, (near, far, f, p))) =
        inr (λ y hy t n. none y hy (same.1 y hy t) n, (near, far, are_ends near far f, end_pick near far (are_fractions near far f) p))

-- ---- lists that agree

-- the number at this place; past the last, 0
abbrev pub at_place : ℕ → List Fraction → Fraction
at_place j xs = get_or xs j zero_fraction

-- the numbers before place i are equal
abbrev pub Agree : ℕ → List Fraction → List Fraction → Type 0
Agree i xs ys = (j : ℕ) → j < i → SameFraction (at_place j xs) (at_place j ys)

-- the numbers before place i are equal, and v is the first list's number there
pub record Chosen (i : ℕ) (v : Fraction) (xs ys : List Fraction) : Type 0 where
  pub agree : Agree i xs ys
  pub value : SameFraction (at_place i xs) v

pub at_front : (n j : ℕ) (xs us : List Fraction) → length xs ≡ n → j < n → at_place j (xs ++ us) ≡ at_place j xs
at_front n j xs us l h = get_or_append_left xs us zero_fraction j (omega (arith, l, h))

pub at_back : (n j : ℕ) (xs us : List Fraction) → length xs ≡ n → at_place (n + j) (xs ++ us) ≡ at_place j us
at_back n j xs us l = ap (λ k. at_place (k + j) (xs ++ us)) (sym l) ∙ get_or-append-add xs us j zero_fraction

pub before_or_past : (j n : ℕ) → (j < n) ⊎ ((b : ℕ) × (j ≡ n + b))
before_or_past j zero = inr (j, omega arith)
before_or_past zero (suc n) = inl (omega arith)
before_or_past (suc j) (suc n) = elim (before_or_past j n) [ inl h ↦ inl (omega arith) | inr (b, e) ↦ inr (b, omega (arith, e)) ]

module _ (n : ℕ) (xs ys us vs : List Fraction) (lx : length xs ≡ n) (ly : length ys ≡ n) where
  pub agree_front : (i : ℕ) → i ≤ n → Agree i (xs ++ us) (ys ++ vs) → Agree i xs ys
  agree_front i h f j lt =
      subst (λ x. SameFraction x (at_place j ys)) (at_front n j xs us lx (omega arith)) (subst (SameFraction (at_place j (xs ++ us))) (at_front n j ys vs ly (omega arith)) (f j lt))

  pub front_agree : (i : ℕ) → i ≤ n → Agree i xs ys → Agree i (xs ++ us) (ys ++ vs)
  front_agree i h f j lt =
      subst (λ x. SameFraction x (at_place j (ys ++ vs))) (sym (at_front n j xs us lx (omega arith))) (subst (SameFraction (at_place j xs)) (sym (at_front n j ys vs ly (omega arith))) (f j lt))

  pub agree_back : (i : ℕ) → Agree (n + i) (xs ++ us) (ys ++ vs) → Agree i us vs
  agree_back i f j lt =
      subst (λ x. SameFraction x (at_place j vs)) (at_back n j xs us lx) (subst (SameFraction (at_place (n + j) (xs ++ us))) (at_back n j ys vs ly) (f (n + j) (omega arith)))

  pub both_agree : (i : ℕ) → Agree n xs ys → Agree i us vs → Agree (n + i) (xs ++ us) (ys ++ vs)
  both_agree i f g j lt = elim (before_or_past j n) [
    | inl h ↦ front_agree n (omega arith) f j h
    | inr (b, e) ↦ subst (λ z. SameFraction (at_place z (xs ++ us)) (at_place z (ys ++ vs))) (sym e)
        (subst (λ x. SameFraction x (at_place (n + b) (ys ++ vs))) (sym (at_back n b xs us lx)) (subst (SameFraction (at_place b us)) (sym (at_back n b ys vs ly)) (g b (omega (arith, e)))))
  ]

  pub chosen_front : (i : ℕ) (v : Fraction) → i < n → Chosen i v (xs ++ us) (ys ++ vs) → Chosen i v xs ys
  chosen_front i v h c = record { agree = agree_front i (omega arith) c.agree; value = subst (λ x. SameFraction x v) (at_front n i xs us lx h) c.value }

  pub front_chosen : (i : ℕ) (v : Fraction) → i < n → Chosen i v xs ys → Chosen i v (xs ++ us) (ys ++ vs)
  front_chosen i v h c = record { agree = front_agree i (omega arith) c.agree; value = subst (λ x. SameFraction x v) (sym (at_front n i xs us lx h)) c.value }

  pub chosen_back : (i : ℕ) (v : Fraction) → Chosen (n + i) v (xs ++ us) (ys ++ vs) → Agree n xs ys × Chosen i v us vs
  chosen_back i v c = (
    agree_front n (omega arith) (λ j lt. c.agree j (omega arith)),
    record { agree = agree_back i c.agree; value = subst (λ x. SameFraction x v) (at_back n i xs us lx) c.value },
  )

  pub back_chosen : (i : ℕ) (v : Fraction) → Agree n xs ys → Chosen i v us vs → Chosen (n + i) v (xs ++ us) (ys ++ vs)
  back_chosen i v f c = record { agree = both_agree i f c.agree; value = subst (λ x. SameFraction x v) (sym (at_back n i xs us lx)) c.value }

-- ---- the numbers of points

pub are_all : (d : ℤ) (ns : List ℤ) → pos 0 <ℤ d → AllFractions (fractions d ns)
are_all d [] h = tt
are_all d (n ∷ ns) h = (h, are_all d ns h)

pub all_of_both : (xs ys : List Fraction) → AllFractions xs → AllFractions ys → AllFractions (xs ++ ys)
all_of_both [] ys f g = g
all_of_both (x ∷ xs) ys f g = (f.0, all_of_both xs ys f.1 g)

pub fractions_both : (d : ℤ) (ns ms : List ℤ) → fractions d (ns ++ ms) ≡ fractions d ns ++ fractions d ms
fractions_both d ns ms = map-append (λ n. record { num = n; den = d }) ns ms

pub at_coordinate : (d : ℤ) (ns : List ℤ) (j : ℕ) → j < length ns → at_place j (fractions d ns) ≡ coordinate j (over d ns)
at_coordinate d ns j h = get_or-map (λ n. record { num = n; den = d }) ns j (pos 0) zero_fraction h

-- equal points have equal numbers, each with each
pub same_zip : (d c : ℤ) (ns ms : List ℤ) → SamePoint (over d ns) (over c ms) → AllZip SameFraction (fractions d ns) (fractions c ms)
same_zip d c [] [] e = tt
same_zip d c [] (m ∷ ms) e = absurd (let b : ⊥ = cc in b)
same_zip d c (n ∷ ns) [] e = absurd (let b : ⊥ = cc in b)
same_zip d c (n ∷ ns) (m ∷ ms) e =
    let head : n *ℤ c ≡ m *ℤ d = cc in let tail : scaled c ns ≡ scaled d ms = cc in (head, same_zip d c ns ms tail)

pub zip_of_both : (xs ys us vs : List Fraction) → AllZip SameFraction xs ys → AllZip SameFraction us vs → AllZip SameFraction (xs ++ us) (ys ++ vs)
zip_of_both [] [] us vs f g = g
zip_of_both [] (y ∷ ys) us vs f g = absurd f
zip_of_both (x ∷ xs) [] us vs f g = absurd f
zip_of_both (x ∷ xs) (y ∷ ys) us vs f g = (f.0, zip_of_both xs ys us vs f.1 g)

pub point_agree : (n : ℕ) (d c : ℤ) (ns ms : List ℤ) → SamePoint (over d ns) (over c ms) → Agree n (fractions d ns) (fractions c ms)
point_agree n d c ns ms e j h = zip_at (fractions d ns) (fractions c ms) j (same_zip d c ns ms e)

pub agree_point : (n : ℕ) (d c : ℤ) (ns ms : List ℤ) → length ns ≡ n → length ms ≡ n → Agree n (fractions d ns) (fractions c ms) → SamePoint (over d ns) (over c ms)
agree_point n d c ns ms ln lm f =
    point-from_coordinates (over d ns) (over c ms) (ln ∙ sym lm)
    (λ j h. subst (λ x. SameFraction x (coordinate j (over c ms))) (at_coordinate d ns j h)
    (subst (SameFraction (at_place j (fractions d ns))) (at_coordinate c ms j (omega (arith, h, ln, lm))) (f j (omega (arith, h, ln)))))

-- a choice in another spelling
pub chosen_moved : (i : ℕ) (v : Fraction) (xs ys zs : List Fraction) → AllFractions ys → AllZip SameFraction xs ys → Chosen i v ys zs → Chosen i v xs zs
chosen_moved i v xs ys zs h same c = record {
  agree = λ j lt. same-through (at_place j xs) (at_place j ys) (at_place j zs) (fraction_at ys j h) (zip_at xs ys j same) (c.agree j lt);
  value = same-through (at_place i xs) (at_place i ys) v (fraction_at ys i h) (zip_at xs ys i same) c.value;
}

pub zip_through : (xs ys zs : List Fraction) → AllFractions ys → AllZip SameFraction xs ys → AllZip SameFraction ys zs → AllZip SameFraction xs zs
zip_through [] [] [] h f g = tt
zip_through [] [] (z ∷ zs) h f g = absurd g
zip_through [] (y ∷ ys) zs h f g = absurd f
zip_through (x ∷ xs) [] zs h f g = absurd f
zip_through (x ∷ xs) (y ∷ ys) [] h f g = absurd g
zip_through (x ∷ xs) (y ∷ ys) (z ∷ zs) h f g = (same-through x y z h.0 f.0 g.0, zip_through xs ys zs h.1 f.1 g.1)

pub zip_equal : (xs : List Fraction) → AllZip SameFraction xs xs
zip_equal [] = tt
zip_equal (x ∷ xs) = (refl, zip_equal xs)
