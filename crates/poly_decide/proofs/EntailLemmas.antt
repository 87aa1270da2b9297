-- What the bound of its sum says of a row.
use Rattle.std.proofs.Common.{◌↔◌, inl, inr, ℕ, List, refl, arith, Bool, true, false, not, ℤ, pos, ◌*ℤ◌, ◌≤ℤ◌, ◌<ℤ◌}
use Rattle.std.specs.Prelude.{IsTrue, MatchBool}
use Rattle.std.proofs.lemmas.Int.{ints, by_lt_z}
use Rattle.poly_specs.proofs.IntLemmas.{mul_le}
use Rattle.poly_specs.proofs.LineLemmas.{Allows-or_not}
use Rattle.poly_specs.proofs.LinearLemmas.{Allows-at_most, Allows-below, scaled_by, cancelled_by}
use Rattle.poly_specs.specs.Bounds.{IsPoint, IsSum, Entails, sum_at}
use Rattle.poly_specs.specs.Fractions.{Fraction, IsFraction, AtMost, Below, zero_fraction}
use Rattle.poly_specs.specs.Rows.{Point, Row, row_value, Allows, Holds}
use Rattle.poly_decide.proofs.BoundLemmas.{allows_lower}
use Rattle.poly_decide.specs.Bounded.{IsBound}
use Rattle.poly_decide.specs.declared.Bound.TheVariants as bound

-- ---- the signs of fractions

-- what a fraction allows, no greater ones forbid
allows_at_most : (s : Bool) (x y : Fraction) → IsFraction x → IsFraction y → AtMost x y → Allows s y.num → Allows s x.num
allows_at_most s x y hx hy le h =
    let most : (y.den *ℤ x.num) ≤ℤ (x.den *ℤ y.num) = omega (arith, ints, le) in
    cancelled_by s y.den x.num hy (allows_lower s (y.den *ℤ x.num) (x.den *ℤ y.num) most (scaled_by s x.den y.num hx h))

below_not_positive : (x y : Fraction) → IsFraction x → IsFraction y → Below x y → y.num ≤ℤ pos 0 → x.num <ℤ pos 0
below_not_positive x y hx hy lt le =
    let m = mul_le x.den y.num (pos 0) hx le in
    let less : (y.den *ℤ x.num) <ℤ pos 0 = omega (arith, ints, lt, m) in
    cancelled_by true y.den x.num hy less

module _ (n : ℕ) (rows : List Row) (r : Row) where
  abbrev Escapes : Type 0
  Escapes = (p : Point) × IsPoint n rows p × (Holds r p → ⊥)

  -- a sum above 0
  escapes : (x : Fraction) → IsFraction x → IsSum n rows r x → Below zero_fraction x → Escapes
  escapes x hx (p, is, e) lt = (
    p,
    is,
    λ h.
        let up : AtMost x (sum_at r p) = omega (arith, ints, e) in
        let none = allows_at_most false x (sum_at r p) hx is.positive up (Allows-at_most r.strict (row_value r p) h) in
        absurd (omega (arith, ints, lt, none)),
  )

  pub unbounded_escapes : IsBound n rows r bound.Unbounded → Escapes
  unbounded_escapes (some, above) = let (x, hx, (s, lt)) = above zero_fraction (record { lt = tt }) in escapes x hx s lt

  told : (s : Bool) (z : ℤ) → IsTrue false ↔ (Allows s z → ⊥) → Allows s z
  told s z tells = elim (Allows-or_not s z) [ inl h ↦ h | inr none ↦ (let e = tells.1 none in let b : ⊥ = cc in absurd b) ]

  pub greatest_tells : (v : Fraction) (b : Bool) → IsFraction v → IsBound n rows r (bound.Max v) → IsTrue b ↔ (Allows r.strict v.num → ⊥) →
      MatchBool (not b) (Entails n rows r) Escapes
  greatest_tells v true hv (some, is) tells =
      let (p, point, e) = is.inside in
      (p, point, λ h. tells.0 refl (allows_at_most r.strict v (sum_at r p) hv point.positive (omega (arith, ints, e)) h))
  greatest_tells v false hv (some, is) tells = λ p point.
      allows_at_most r.strict (sum_at r p) v point.positive hv (is.greatest (sum_at r p) point.positive (p, point, refl)) (told r.strict v.num tells)

  pub limit_tells : (v : Fraction) (b : Bool) → IsFraction v → IsBound n rows r (bound.Below v) → IsTrue b ↔ (Allows false v.num → ⊥) →
      MatchBool (not b) (Entails n rows r) Escapes
  limit_tells v true hv (some, is) tells =
      let up : Below zero_fraction v = positive v.num v.den (tells.0 refl) in
      let (x, hx, (s, lt)) = is.approached zero_fraction (record { lt = tt }) up in
      escapes x hx s lt
    where
      positive : (a d : ℤ) → (a ≤ℤ pos 0 → ⊥) → (pos 0 *ℤ d) <ℤ (a *ℤ pos 1)
      positive a d none = by_lt_z (pos 0) a (λ lt. omega (arith, ints, lt)) (λ le. absurd (none le))
  limit_tells v false hv (some, is) tells = λ p point.
      Allows-below r.strict (row_value r p)
      (below_not_positive (sum_at r p) v point.positive hv (is.all_below (sum_at r p) point.positive (p, point, refl)) (told false v.num tells))
