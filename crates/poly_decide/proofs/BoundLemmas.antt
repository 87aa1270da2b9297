-- The bound from above of a set of numbers that goes up to its cap.
use Rattle.std.proofs.Common.{◌≡◌, ◌↔◌, inl, inr, ℕ, suc, ◌+◌, List, get_or, refl, sym, subst, arith, Bool, true, false, Some, None, ℤ, pos, negsuc, ◌+ℤ◌, ◌*ℤ◌, ◌≤ℤ◌}
use Rattle.std.specs.Prelude.{All, Any, IsTrue}
use Rattle.std.proofs.lemmas.Int.{ints, by_lt_z}
use Rattle.poly_specs.proofs.FractionLemmas.{AtMost-trans, Below-AtMost, either, middle-den, middle-between}
use Rattle.poly_specs.proofs.IntLemmas.{expand, products, mul_le_pos, product_positive}
use Rattle.poly_specs.proofs.LinearLemmas.{scaled_by, cancelled_by}
use Rattle.poly_specs.specs.Bounds.{IsSum, sum_at, with_sum}
use Rattle.poly_specs.specs.Fractions.{Fraction, IsFraction, AtMost, Below}
use Rattle.poly_specs.specs.Picks.{middle}
use Rattle.poly_specs.specs.Rows.{Row, HasPoint, Allows, coef_at}
use Rattle.poly_specs.specs.Sets.{IsUnbounded, IsGreatest, IsLimit}
use Rattle.poly_specs.specs.Systems.{IsLevel}
use Rattle.poly_decide.proofs.EmptinessLemmas.{level_tells}
use Rattle.poly_decide.proofs.SumLemmas.{left_sums, point_back, point_forth}
use Rattle.poly_decide.specs.Bounded.{IsBound}
use Rattle.poly_decide.specs.Caps.{HoldsAt, IsWithin, IsLeastCap}
use Rattle.poly_decide.specs.declared.Bound.TheVariants as bound

-- v + 1
abbrev one_more : Fraction → Fraction
one_more v = record { num = v.num +ℤ v.den; den = v.den }

above_one_more : (v : Fraction) → IsFraction v → Below v (one_more v)
above_one_more v hv = let h = product_positive v.den v.den hv hv in simp expand (omega (arith, ints, h))

module _ (S : Fraction → Type 0) (z : Fraction) (hz : IsFraction z) (member : S z) where
  -- a set with all numbers above one of its own
  pub no_bound : ((x : Fraction) → IsFraction x → AtMost z x → S x) → IsUnbounded S
  no_bound up v hv = elim (either v z) [
    | inl lt ↦ (z, hz, (member, lt))
    | inr le ↦ (
        let lt = above_one_more v hv in
        (one_more v, hv, (up (one_more v) hv (AtMost-trans z v (one_more v) hz hv hv le (Below-AtMost v (one_more v) lt)), lt)))
  ]

  module _ (m : Fraction) (hm : IsFraction m) where
    pub closed_bound : ((x : Fraction) → IsFraction x → AtMost z x → AtMost x m → S x) → ((x : Fraction) → IsFraction x → S x → AtMost x m) → IsGreatest S m
    closed_bound up most = record { inside = up m hm (most z hz member) (same m); greatest = most }
      where
        same : (m : Fraction) → AtMost m m
        same m = omega (arith, ints)

    pub open_bound : ((x : Fraction) → IsFraction x → AtMost z x → Below x m → S x) → ((x : Fraction) → IsFraction x → S x → Below x m) → IsLimit S m
    open_bound up below = record {
      missing = λ s. irreflexive m (below m hm s);
      all_below = below;
      approached = λ u hu lt. elim (either u z) [
        | inl over ↦ (z, hz, (member, over))
        | inr le ↦ (
            let h : Fraction = middle u m in
            let hh : IsFraction h = middle-den u m hu hm in
            let b = middle-between u m hu hm lt in
            (h, hh, (up h hh (AtMost-trans z u h hz hu hh le (Below-AtMost u h b.0)) b.1, b.0)))
      ];
    }
      where
        irreflexive : (m : Fraction) → Below m m → ⊥
        irreflexive m h = omega (arith, ints, h)

-- ---- the numbers at which rows hold

pub allows_lower : (s : Bool) (v w : ℤ) → v ≤ℤ w → Allows s w → Allows s v
allows_lower true v w le h = omega (arith, ints, le, h)
allows_lower false v w le h = omega (arith, ints, le, h)

down_times : (a u v : ℤ) → a ≤ℤ pos 0 → u ≤ℤ v → (a *ℤ v) ≤ℤ (a *ℤ u)
down_times (pos n) u v h le =
    let e : n ≡ 0 = omega (arith, ints) in subst (λ k. (pos k *ℤ v) ≤ℤ (pos k *ℤ u)) (sym e) (omega (arith, ints))
down_times (negsuc n) u v h le = let m = mul_le_pos (suc n) u v le in omega (arith, ints, m)

-- a row without a positive coefficient holds above a number at which it holds
holds_above : (r : Row) (z x : Fraction) → IsFraction z → IsFraction x → AtMost z x → coef_at 0 r ≤ℤ pos 0 → HoldsAt r z → HoldsAt r x
holds_above r z x hz hx le down h =
    let lead : ℤ = coef_at 0 r in
    let at_z : ℤ = lead *ℤ z.num +ℤ r.cst *ℤ z.den in
    let at_x : ℤ = lead *ℤ x.num +ℤ r.cst *ℤ x.den in
    let less = down_times lead (z.num *ℤ x.den) (x.num *ℤ z.den) down le in
    let e : (z.den *ℤ at_x) ≤ℤ (x.den *ℤ at_z) = simp expand (omega (arith, products, less)) in
    cancelled_by r.strict z.den at_x hz (allows_lower r.strict (z.den *ℤ at_x) (x.den *ℤ at_z) e (scaled_by r.strict x.den at_z hx h))

-- above a number at which rows hold they do as far as those with a positive coefficient do
pub hold_up : (rows : List Row) (z x : Fraction) → IsFraction z → IsFraction x → AtMost z x → All (λ r. HoldsAt r z) rows → All (λ r. IsWithin r x) rows → All (λ r. HoldsAt r x) rows
hold_up rows z x hz hx le low within k d lt =
    let r : Row = get_or rows k d in
    by_lt_z (pos 0) (coef_at 0 r) (λ up. within k d lt up) (λ down. holds_above r z x hz hx le down (low k d lt))

-- of rows that set no cap
pub within_none : (rows : List Row) (x : Fraction) → All (λ r. coef_at 0 r ≤ℤ pos 0) rows → All (λ r. IsWithin r x) rows
within_none rows x none k d lt = λ up. let le = none k d lt in absurd (omega (arith, ints, le, up))

pub holds_within : (rows : List Row) (x : Fraction) → All (λ r. HoldsAt r x) rows → All (λ r. IsWithin r x) rows
holds_within rows x h k d lt = λ up. h k d lt

-- ---- the bound of a sum, from what is left in its column

module _ (n : ℕ) (rows : List Row) (r : Row) (none first : List Row)
    (level : IsLevel (n + 1) 0 (with_sum r rows) none) (sums : IsLevel (n + 1) 1 (with_sum r rows) first) where
  pub empty_bound : Any (λ s. Allows s.strict s.cst → ⊥) none → IsBound n rows r bound.Empty
  empty_bound never = λ some. level_tells (n + 1) (with_sum r rows) none true level (λ t. never, λ t. refl) (point_forth n r rows some)

  module _ (b : Bool) (tells : IsTrue b ↔ Any (λ s. Allows s.strict s.cst → ⊥) none) (not : b ≡ false) where
    some_point : HasPoint n rows
    some_point =
        point_back n r rows (level_tells (n + 1) (with_sum r rows) none false level (subst (λ a. IsTrue a ↔ Any (λ s. Allows s.strict s.cst → ⊥) none) not tells))

    abbrev S : Fraction → Type 0
    S = IsSum n rows r

    abbrev member : Fraction
    member = sum_at r some_point.0

    member_is : IsFraction member
    member_is = some_point.1

    member_in : S member
    member_in = (some_point.0, record { positive = some_point.1; sized = some_point.2; holds = some_point.3 }, refl)

    -- above a sum there are sums as far as the rows with a positive coefficient hold
    up : (x : Fraction) → IsFraction x → AtMost member x → All (λ s. IsWithin s x) first → S x
    up x hx le within =
        (left_sums n r rows first sums x hx).1
        (hold_up first member x member_is hx le ((left_sums n r rows first sums member member_is).0 member_in) within)

    within : (x : Fraction) → IsFraction x → S x → All (λ s. IsWithin s x) first
    within x hx s = holds_within first x ((left_sums n r rows first sums x hx).0 s)

    pub unbounded : IsLeastCap first None → IsBound n rows r bound.Unbounded
    unbounded all = (some_point, no_bound S member member_is member_in (λ x hx le. up x hx le (within_none first x all)))

    pub greatest : (m : Fraction) → IsLeastCap first (Some (record { end = m; is_open = false })) → IsBound n rows r (bound.Max m)
    greatest m cap = (
      some_point,
      closed_bound S member member_is member_in m cap.fraction (λ x hx le most. up x hx le ((cap.same x hx).0 most)) (λ x hx s. (cap.same x hx).1 (within x hx s)),
    )

    pub limit : (m : Fraction) → IsLeastCap first (Some (record { end = m; is_open = true })) → IsBound n rows r (bound.Below m)
    limit m cap = (
      some_point,
      open_bound S member member_is member_in m cap.fraction (λ x hx le below. up x hx le ((cap.same x hx).0 below)) (λ x hx s. (cap.same x hx).1 (within x hx s)),
    )
