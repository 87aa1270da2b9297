use Rattle.std.proofs.Common.{◌≡◌, ◌∙◌, refl, sym, ap, ap₂, subst, subst₂, true≢false, SFits, rules, arith, length, IsTrue, false}
use Rattle.std.specs.Int.{w128}
use Rattle.std.proofs.lemmas.Int.{to_z-of_z}
use Rattle.poly_specs.specs.Bits.{NonePasses}
use Rattle.poly_specs.specs.KeptRows.{IsKeptRow}
use Rattle.poly_specs.specs.Rows.{Row}
use Rattle.lin_row.specs.Mixing.{MixFits, mixed_numbers}
use Rattle.lin_row.proofs.MixLemmas.{mixed_sums, length-mixed_sums}
use Rattle.lin_row.proofs.Row.mixed_row.Goals as goal

pub returns-in_err-mixed_coef-clause-kept : goal.returns-in_err-mixed_coef-clause-kept
returns-in_err-mixed_coef-clause-kept c =
    let p = c.ranges.p in
    let q = c.ranges.q in
    let l = c.as_slice.ensures ∙ ap (λ (r : Row). r.coef) c.lower.view_is in
    let u = c.as_slice-2.ensures ∙ ap (λ (r : Row). r.coef) c.upper.view_is in
    let some : NonePasses (mixed_numbers c.args.p c.as_slice.result.now c.args.q c.as_slice-2.result.now) → IsTrue false = simp (to_z-of_z, p, q) at c.in_err-mixed_coef.ensures.kept.1 in
    rw c.from_residual-in_err-mixed_coef.ensures (
      λ e. absurd (true≢false (sym e)),
      λ g. absurd (true≢false (sym (some (subst₂ (λ cs ds. NonePasses (mixed_numbers c.args.p cs c.args.q ds)) (sym l) (sym u) g.1)))),
    )

module _ (c : goal.In_ok-mixed_coef) where
  lower_is : c.as_slice.result.now ≡ c.args.lower.now.coef
  lower_is = c.as_slice.ensures ∙ ap (λ (r : Row). r.coef) c.lower.view_is

  upper_is : c.as_slice-2.result.now ≡ c.args.upper.now.coef
  upper_is = c.as_slice-2.ensures ∙ ap (λ (r : Row). r.coef) c.upper.view_is

  coef_fit : NonePasses (mixed_numbers c.args.p c.args.lower.now.coef c.args.q c.args.upper.now.coef)
  coef_fit =
      let p = c.ranges.p in
      let q = c.ranges.q in
      let fit : NonePasses (mixed_numbers c.args.p c.as_slice.result.now c.args.q c.as_slice-2.result.now) = simp (to_z-of_z, p, q) at (c.in_ok-mixed_coef.ensures.kept.0 refl) in
      subst₂ (λ cs ds. NonePasses (mixed_numbers c.args.p cs c.args.q ds)) lower_is upper_is fit

  cst_fit : MixFits c.args.p c.args.lower.now.cst c.args.q c.args.upper.now.cst
  cst_fit =
      let p = c.ranges.p in
      let q = c.ranges.q in
      let a : SFits w128 c.lower.inside.cst = search rules in
      let b : SFits w128 c.upper.inside.cst = search rules in
      let fit : MixFits c.args.p c.lower.inside.cst c.args.q c.upper.inside.cst = simp (to_z-of_z, p, q, a, b) at c.in_ok-cst.ensures.0 in
      subst₂ (λ x y. MixFits c.args.p x c.args.q y) (ap (λ (r : Row). r.cst) c.lower.view_is) (ap (λ (r : Row). r.cst) c.upper.view_is) fit

  items_are : c.mixed_coef.new.sums.items ≡ mixed_sums c.args.p c.args.lower.now.coef c.args.q c.args.upper.now.coef
  items_are =
      let p = c.ranges.p in
      let q = c.ranges.q in
      let items : c.mixed_coef.new.sums.items ≡ mixed_sums c.args.p c.as_slice.result.now c.args.q c.as_slice-2.result.now = simp (to_z-of_z, p, q) at c.in_ok-mixed_coef.ensures.items in
      items ∙ ap₂ (λ cs ds. mixed_sums c.args.p cs c.args.q ds) lower_is upper_is

pub returns-clause-kept : goal.returns-clause-kept
returns-clause-kept c = (λ e. (cst_fit c, coef_fit c), λ g. refl)

pub returns-clause-coef : goal.returns-clause-coef
returns-clause-coef c = items_are c

pub returns-clause-few : goal.returns-clause-few
returns-clause-few c =
    let kept : IsKeptRow c.args.lower.now = subst IsKeptRow c.lower.view_is c.lower.invariant.0 in
    let few = kept.few in
    let e = ap length (items_are c) in
    let n = length-mixed_sums c.args.p c.args.lower.now.coef c.args.q c.args.upper.now.coef c.requires.widths in
    omega (arith, few, e, n)
