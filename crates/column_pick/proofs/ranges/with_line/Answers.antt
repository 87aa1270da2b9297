use Rattle.std.proofs.Common.{◌≡◌, ◌≢◌, ◌∙◌, ◌<ℤ◌, pos, neg_ℤ, SFits, rules, subst, arith, to_z, of_z}
use Rattle.std.specs.Int.{w128}
use Rattle.std.proofs.lemmas.Int.{ints, to_z-of_z}
use Rattle.column_pick.specs.Ranges.{IsCapOf}
use Rattle.column_pick.proofs.RangeLemmas.{narrowed_up, narrowed_down}
use Rattle.column_pick.proofs.ranges.with_line.Goals as goal

pub returns-then-lead-gt0 : goal.returns-then-lead-gt0
returns-then-lead-gt0 c =
    let lead_fits : SFits w128 c.args.lead = search rules in
    let cst_fits : SFits w128 c.args.cst = search rules in
    let above : pos 0 <ℤ c.args.lead = search rules in
    let some : c.args.lead ≢ pos 0 = λ e. omega (arith, ints, e, above) in
    let of = subst (λ a. IsCapOf a c.args.cst c.args.strict c.cap_of-cap.result) (to_z-of_z w128 c.args.lead lead_fits)
    (subst (λ k. IsCapOf (to_z w128 (of_z w128 c.args.lead)) k c.args.strict c.cap_of-cap.result) (to_z-of_z w128 c.args.cst cst_fits) c.cap_of-cap.ensures) in
    narrowed_up c.args.range.now c.args.lead c.args.cst c.args.strict c.cap_of-cap.result c.with_cap.result some of c.with_cap.ensures

pub returns-then-lead-lt0 : goal.returns-then-lead-lt0
returns-then-lead-lt0 c =
    let lead_fits : SFits w128 c.args.lead = search rules in
    let cst_fits : SFits w128 c.args.cst = search rules in
    let neg_fits : SFits w128 c.negated.result = search rules in
    let under : c.args.lead <ℤ pos 0 = search rules in
    let some : c.args.lead ≢ pos 0 = λ e. omega (arith, ints, e, under) in
    let cap = c.cap_of-cap-then-lead-lt0.result in
    let value : c.negated.result ≡ neg_ℤ c.args.lead = simp (to_z-of_z, lead_fits) at c.negated.ensures.value in
    let of = subst (λ a. IsCapOf a c.args.cst c.args.strict cap) (to_z-of_z w128 c.negated.result neg_fits ∙ value)
    (subst (λ k. IsCapOf (to_z w128 (of_z w128 c.negated.result)) k c.args.strict cap) (to_z-of_z w128 c.args.cst cst_fits) c.cap_of-cap-then-lead-lt0.ensures) in
    narrowed_down c.args.range.now c.args.lead c.args.cst c.args.strict cap c.with_cap-then-lead-lt0.result some of c.with_cap-then-lead-lt0.ensures
