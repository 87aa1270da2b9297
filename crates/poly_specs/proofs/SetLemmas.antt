-- Sets of fractions with the same members: they are intervals alike, and have the same ends and picks.
use Rattle.std.proofs.Common.{◌⊎◌, inl, inr, Bool, true, false, Option, Some, None, refl}
use Rattle.std.specs.Prelude.{IsTrue}
use Rattle.poly_specs.proofs.PickExistence.{some_pick}
use Rattle.poly_specs.specs.Fractions.{Fraction, IsFraction}
use Rattle.poly_specs.specs.Sets.{IsInterval, HasMember, HasBelow, HasAbove, IsLowEnd, IsHighEnd}
use Rattle.poly_specs.specs.Picks.{IsNearestInteger, HasNoInteger, HasEnds, AreEnds, IsEndPick, IsPick}

-- each fraction of the first set is in the second
abbrev pub Within : (Fraction → Type 0) → (Fraction → Type 0) → Type 0
Within S U = (v : Fraction) → IsFraction v → S v → U v

pub member_within : (S U : Fraction → Type 0) → Within S U → HasMember S → HasMember U
member_within S U to (x, hx, s) = (x, hx, to x hx s)

below_within : (S U : Fraction → Type 0) → Within S U → (v : Fraction) → HasBelow S v → HasBelow U v
below_within S U to v (x, hx, (s, lt)) = (x, hx, (to x hx s, lt))

above_within : (S U : Fraction → Type 0) → Within S U → (v : Fraction) → HasAbove S v → HasAbove U v
above_within S U to v (x, hx, (s, lt)) = (x, hx, (to x hx s, lt))

pub interval_same : (S U : Fraction → Type 0) → Within S U → Within U S → IsInterval S → IsInterval U
interval_same S U to back is = record {
  same = λ x y hx hy e u. to y hy (is.same x y hx hy e (back x hx u));
  between = λ x y z hx hy hz a b u w. to y hy (is.between x y z hx hy hz a b (back x hx u) (back z hz w));
}

pub low_same : (S U : Fraction → Type 0) → Within S U → Within U S → (low : Option Fraction) → IsLowEnd S low → IsLowEnd U low
low_same S U to back None h = λ v hv. below_within S U to v (h v hv)
low_same S U to back (Some low) h = (h.0, λ x hx u. h.1 x hx (back x hx u), λ v hv lt. below_within S U to v (h.2 v hv lt))

pub high_same : (S U : Fraction → Type 0) → Within S U → Within U S → (high : Option Fraction) → IsHighEnd S high → IsHighEnd U high
high_same S U to back None h = λ v hv. above_within S U to v (h v hv)
high_same S U to back (Some high) h = (h.0, λ x hx u. h.1 x hx (back x hx u), λ v hv lt. above_within S U to v (h.2 v hv lt))

-- ---- picks

module _ (S U : Fraction → Type 0) (to : Within S U) (back : Within U S) where
  nearest_same : (x : Fraction) → IsFraction x → IsNearestInteger S x → IsNearestInteger U x
  nearest_same x hx i = record { inside = to x hx i.inside; integer = i.integer; nearest = λ y hy u j. i.nearest y hy (back y hy u) j }

  ends_same : (low high : Fraction) → HasEnds S low high → HasEnds U low high
  ends_same low high e = record {
    low_is = e.low_is;
    high_is = e.high_is;
    ordered = e.ordered;
    outside = λ y hy u. e.outside y hy (back y hy u);
    between = λ y hy a b. to y hy (e.between y hy a b);
  }

  are_ends_same : (near far : Fraction) → AreEnds S near far → AreEnds U near far
  are_ends_same near far (inl e) = inl (e.0, ends_same near far e.1)
  are_ends_same near far (inr e) = inr (e.0, ends_same far near e.1)

  end_pick_same : (near far x : Fraction) → IsFraction near → IsFraction far → IsEndPick S near far x → IsEndPick U near far x
  end_pick_same near far x hn hf (inl e) = inl (to near hn e.0, e.1)
  end_pick_same near far x hn hf (inr (inl e)) = inr (inl (λ u. e.0 (back near hn u), to far hf e.1, e.2))
  end_pick_same near far x hn hf (inr (inr e)) = inr (inr (λ u. e.0 (back near hn u), λ u. e.1 (back far hf u), e.2))

  ends_are : (near far : Fraction) → AreEnds S near far → IsFraction near × IsFraction far
  ends_are near far (inl e) = (e.1.low_is, e.1.high_is)
  ends_are near far (inr e) = (e.1.high_is, e.1.low_is)

  pub pick_same : (x : Fraction) → IsPick S x → IsPick U x
  pick_same x pick = record { positive = pick.positive; some = member_within S U to pick.some; kind = go pick.kind }
    where
      go : IsNearestInteger S x ⊎ (HasNoInteger S × ((near far : Fraction) × AreEnds S near far × IsEndPick S near far x)) →
          IsNearestInteger U x ⊎ (HasNoInteger U × ((near far : Fraction) × AreEnds U near far × IsEndPick U near far x))
      go (inl i) = inl (nearest_same x pick.positive i)
      go (inr (none, (near, far, ends, e))) =
          let h = ends_are near far ends in
          inr (λ y hy u j. none y hy (back y hy u) j, (near, far, are_ends_same near far ends, end_pick_same near far x h.0 h.1 e))

-- ---- a set whose members can be told

abbrev is_left : {A B : Type 0} → A ⊎ B → Bool
is_left (inl a) = true
is_left (inr b) = false

left_of : {A : Type 0} (d : A ⊎ (A → ⊥)) → A → IsTrue (is_left d)
left_of (inl a) b = refl
left_of (inr n) b = absurd (n b)

of_left : {A : Type 0} (d : A ⊎ (A → ⊥)) → IsTrue (is_left d) → A
of_left (inl a) t = a
of_left (inr n) t = absurd (let f : ⊥ = cc in f)

pub some_pick_told : (S : Fraction → Type 0) → ((v : Fraction) → S v ⊎ (S v → ⊥)) → (low high : Option Fraction) →
    IsInterval S → HasMember S → IsLowEnd S low → IsHighEnd S high → (x : Fraction) × IsPick S x
some_pick_told S tell low high is some l h =
    let r = some_pick (λ v. is_left (tell v)) low high (interval_same S Told to back is) (member_within S Told to some)
    (low_same S Told to back low l) (high_same S Told to back high h) in
    (r.0, pick_same Told S back to r.0 r.1)
  where
    Told : Fraction → Type 0
    Told v = IsTrue (is_left (tell v))

    to : Within S Told
    to v hv s = left_of (tell v) s

    back : Within Told S
    back v hv t = of_left (tell v) t
