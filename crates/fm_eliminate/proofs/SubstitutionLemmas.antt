-- Rows that are combined with an equation alone: the projection of the rows.
use Rattle.std.proofs.Common.{◌≡◌, inl, inr, ℕ, ◌<◌, ◌||◌, List, [], ◌∷◌, length, map, refl, sym, ◌∙◌, ap, subst, arith, ℤ, pos, neg_ℤ, ◌+ℤ◌, ◌*ℤ◌, ◌<ℤ◌, unsigned_abs}
use Rattle.std.specs.Prelude.{◌==◌}
use Rattle.std.proofs.lemmas.Int.{ints}
use Rattle.poly_specs.proofs.CombinationLemmas.{combination_rest, negative, positive, abs_lower}
use Rattle.poly_specs.proofs.EliminationLemmas.{AllHold-from_in, AllHold-at_in, width_in, Holds-same_but, out_map, in_map}
use Rattle.poly_specs.proofs.InclusionLemmas.{in_left, in_right, in_filter, in_flat_map}
use Rattle.poly_specs.proofs.IntLemmas.{mul_neg, neg_mul, product_positive}
use Rattle.poly_specs.proofs.LinearLemmas.{Allows-left, Allows-right}
use Rattle.poly_specs.proofs.ProjectionLemmas.{with_number, value-rest, rest, SameBut-with_number}
use Rattle.poly_specs.specs.Elimination.{combination, lowers, uppers, free_of, eliminated}
use Rattle.poly_specs.specs.Lists.{number_at, In, dot}
use Rattle.poly_specs.specs.Rows.{Point, Row, coef_at, Allows, Holds, AllHold, AllWide, SomeValueHolds}
use Rattle.poly_specs.specs.Systems.{IsProjection, negated}
use Rattle.fm_eliminate.specs.Leaving.{IsLeft, IsPivot, replaced}
use Rattle.fm_eliminate.proofs.CountLemmas.{lower-In, upper-In}
use Rattle.fm_eliminate.proofs.PivotLemmas.{coef-negated}
use Rattle.fm_eliminate.proofs.ProjectionLemmas.{kinds, free-is_zero, replaced_free, replaced_lower, replaced_upper, projection_by}

-- ---- the rows in whose place others stand are plain ones

among_plain : (x : ℕ) (rows : List Row) (lower upper r : Row) → IsPivot x rows lower upper → pos 0 <ℤ coef_at x upper → In r rows →
    In (replaced x lower upper r) (eliminated x rows)
unfolding eliminated
among_plain x rows lower upper r pivot above i = elim (kinds (coef_at x r)) [
  | inl z ↦ subst (λ s. In s (eliminated x rows)) (sym (replaced_free x lower upper r z))
      (in_left r (free_of x rows) _ (in_filter (λ s. unsigned_abs (coef_at x s) == 0) r rows i (free-is_zero (coef_at x r) z)))
  | inr (inl h) ↦ subst (λ s. In s (eliminated x rows)) (sym (replaced_lower x lower upper r h))
      (in_right _ (free_of x rows) _ (in_flat_map (λ l. map (combination x l) (uppers x rows)) r _ (lowers x rows) (lower-In x rows r i h)
      (in_map (combination x r) upper (uppers x rows) (upper-In x rows upper pivot.upper_in above))))
  | inr (inr h) ↦ subst (λ s. In s (eliminated x rows)) (sym (replaced_upper x lower upper r h))
      (in_right _ (free_of x rows) _ (in_flat_map (λ l. map (combination x l) (uppers x rows)) lower _ (lowers x rows) (lower-In x rows lower pivot.lower_in pivot.below)
      (in_map (combination x lower) r (uppers x rows) (upper-In x rows r i h))))
]

-- ---- the value that the equation gives the column

dot-negated : (cs ns : List ℤ) → dot (map neg_ℤ cs) ns ≡ neg_ℤ (dot cs ns)
dot-negated [] ns = refl
dot-negated (c ∷ cs) [] = refl
dot-negated (c ∷ cs) (n ∷ ns) = omega (arith, ints, dot-negated cs ns, neg_mul c n)

rest-negated : (x : ℕ) (r : Row) (p : Point) → x < length r.coef → rest x (negated r) p ≡ neg_ℤ (rest x r p)
rest-negated x r p h =
    let d = dot-negated r.coef p.num in
    let c = coef-negated x r h in
    rw c (omega (arith, ints, d, neg_mul r.cst p.den, neg_mul (coef_at x r) (number_at x p.num)))

-- k times the rest of a row, plus its coefficient times n
solved_lower : (k a : ℕ) (c v w n u : ℤ) → c ≡ neg_ℤ (pos a) → u ≡ neg_ℤ n → w ≡ pos k *ℤ v +ℤ c *ℤ n → pos k *ℤ v +ℤ pos a *ℤ u ≡ w
solved_lower k a c v w n u ec eu ew = rw (eu, ew, ec) (omega (arith, ints, mul_neg (pos a) n, neg_mul (pos a) n))

solved_upper : (k b : ℕ) (c v w n : ℤ) → c ≡ pos b → w ≡ pos k *ℤ v +ℤ c *ℤ n → pos b *ℤ n +ℤ pos k *ℤ v ≡ w
solved_upper k b c v w n ec ew = rw (ew, ec) (omega (arith, ints))

pub abs-negated : (z : ℤ) → unsigned_abs (neg_ℤ z) ≡ unsigned_abs z
abs-negated z = omega (arith, ints)

pub above : (x : ℕ) (rows : List Row) (lower upper : Row) → x < length lower.coef → IsPivot x rows lower upper → pos 0 <ℤ coef_at x upper
above x rows lower upper h pivot =
    let e : coef_at x upper ≡ neg_ℤ (coef_at x lower) = ap (coef_at x) pivot.opposite ∙ coef-negated x lower h in
    let below = pivot.below in
    omega (arith, ints, e, below)

-- the point with the value that the equation gives the column
abbrev solution : ℕ → Row → Point → Point
solution x lower p = with_number (unsigned_abs (coef_at x lower)) p x (rest x lower p)

solution-Holds : (x w : ℕ) (rows : List Row) (lower upper r : Row) (p : Point) → x < w → AllWide w rows → IsPivot x rows lower upper →
    length p.num ≡ w → pos 0 <ℤ p.den → pos 0 <ℤ (solution x lower p).den → In r rows → Holds (replaced x lower upper r) p → Holds r (solution x lower p)
solution-Holds x w rows lower upper r p h wide pivot lp hp hq i g =
    let wl : length lower.coef ≡ w = width_in w rows wide lower pivot.lower_in in
    let wu : length upper.coef ≡ w = width_in w rows wide upper pivot.upper_in in
    let wr : length r.coef ≡ w = width_in w rows wide r i in
    let hl : x < length lower.coef = omega arith in
    let up = above x rows lower upper hl pivot in
    let k : ℕ = unsigned_abs (coef_at x lower) in
    let value = value-rest k r p x (rest x lower p) (omega arith) (omega arith) in
    elim (kinds (coef_at x r)) [
      | inl z ↦ Holds-same_but x r p (solution x lower p) (omega arith) (wr ∙ sym lp) z hp hq (SameBut-with_number k p x (rest x lower p))
          (subst (λ s. Holds s p) (replaced_free x lower upper r z) g)
      | inr (inl low) ↦ (
          let c = combination_rest x r upper p (wr ∙ sym wu) low up (subst (λ s. Holds s p) (replaced_lower x lower upper r low) g) in
          let same : unsigned_abs (coef_at x upper) ≡ k = ap (λ s. unsigned_abs (coef_at x s)) pivot.opposite ∙ ap unsigned_abs (coef-negated x lower hl) ∙ abs-negated (coef_at x lower) in
          let turned : rest x upper p ≡ neg_ℤ (rest x lower p) = ap (λ s. rest x s p) pivot.opposite ∙ rest-negated x lower p hl in
          let solved = solved_lower k (unsigned_abs (coef_at x r)) (coef_at x r) (rest x r p) _ (rest x lower p) (rest x upper p) (negative (coef_at x r) low) turned value in
          subst (Allows r.strict) solved (Allows-left r.strict upper.strict _
          (subst (λ m. Allows (r.strict || upper.strict) (pos m *ℤ rest x r p +ℤ pos (unsigned_abs (coef_at x r)) *ℤ rest x upper p)) same c)))
      | inr (inr high) ↦ (
          let c = combination_rest x lower r p (wl ∙ sym wr) pivot.below high (subst (λ s. Holds s p) (replaced_upper x lower upper r high) g) in
          let solved = solved_upper k (unsigned_abs (coef_at x r)) (coef_at x r) (rest x r p) _ (rest x lower p) (positive (coef_at x r) high) value in
          subst (Allows r.strict) solved (Allows-right lower.strict r.strict _ c))
    ]

solution-positive : (x : ℕ) (lower : Row) (p : Point) → coef_at x lower <ℤ pos 0 → pos 0 <ℤ p.den → pos 0 <ℤ (solution x lower p).den
unfolding with_number
solution-positive x lower p h d =
    product_positive (pos (unsigned_abs (coef_at x lower))) p.den (let a = abs_lower x lower h in omega (arith, ints, a)) d

complete : (x w : ℕ) (rows : List Row) (lower upper : Row) (p : Point) → x < w → AllWide w rows → IsPivot x rows lower upper →
    length p.num ≡ w → pos 0 <ℤ p.den → AllHold (map (replaced x lower upper) rows) p → SomeValueHolds x rows p
complete x w rows lower upper p h wide pivot lp hp all =
    let hq = solution-positive x lower p pivot.below hp in (
      solution x lower p,
      hq,
      SameBut-with_number (unsigned_abs (coef_at x lower)) p x (rest x lower p),
      AllHold-from_in rows (solution x lower p) (λ r i. solution-Holds x w rows lower upper r p h wide pivot lp hp hq i
          (AllHold-at_in (map (replaced x lower upper) rows) p all (replaced x lower upper r) (in_map (replaced x lower upper) r rows i))),
    )

-- what is left of the rows that stand in the place of others
pub pivot_projection : (w x : ℕ) (rows left : List Row) (lower upper : Row) → x < w → AllWide w rows → IsPivot x rows lower upper →
    IsLeft (map (replaced x lower upper) rows) left → IsProjection w x rows left
pivot_projection w x rows left lower upper h wide pivot l =
    let wl : length lower.coef ≡ w = width_in w rows wide lower pivot.lower_in in
    let up = above x rows lower upper (omega arith) pivot in
    projection_by w x rows left h wide
    (λ r i. let m = out_map (replaced x lower upper) r rows (l.among r i) in
    subst (λ s. In s (eliminated x rows)) (sym m.2) (among_plain x rows lower upper m.0 pivot up m.1))
    (λ p d s all. complete x w rows lower upper p h wide pivot s d (l.enough p d all))

-- ---- the equation itself is dropped
