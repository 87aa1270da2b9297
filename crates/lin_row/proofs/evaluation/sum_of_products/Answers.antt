use Rattle.std.proofs.Common.{◌≡◌, SFits, rules, pos, get_or, ◌+ℤ◌, ◌*ℤ◌, to_z}
use Rattle.std.specs.Int.{w128}
use Rattle.std.proofs.lemmas.Int.{to_z-of_z}
use Rattle.lin_row.proofs.EvaluationLemmas.{ProductFits, sum_more, sum_stops, sum_all}
use Rattle.lin_row.proofs.evaluation.sum_of_products.Goals as goal

pub returns-in_err-sum : goal.returns-in_err-sum
returns-in_err-sum c =
    let a : SFits w128 (get_or c.args.coef.now c.loop-i.i (pos 0)) = search rules in
    let b : SFits w128 (get_or c.args.num.now c.loop-i.i (pos 0)) = search rules in
    let no_fit : ProductFits (to_z w128 c.loop-i.sum-bits) (get_or c.args.coef.now c.loop-i.i (pos 0)) (get_or c.args.num.now c.loop-i.i (pos 0)) → ⊥ =
    simp (to_z-of_z, a, b) at c.in_err-sum.ensures in
    rw c.from_residual.ensures (sum_stops (to_z w128 c.loop-i.sum-bits) c.loop-i.i c.args.coef.now c.args.num.now c.loop-i.invariant c.loop-i-test.true c.requires.sized no_fit)

pub loop-i-preserved : goal.loop-i-preserved
loop-i-preserved c =
    let a : SFits w128 (get_or c.args.coef.now c.loop-i.i (pos 0)) = search rules in
    let b : SFits w128 (get_or c.args.num.now c.loop-i.i (pos 0)) = search rules in
    let s : SFits w128 c.in_ok-sum.sum = search rules in
    let said : ProductFits (to_z w128 c.loop-i.sum-bits) (get_or c.args.coef.now c.loop-i.i (pos 0)) (get_or c.args.num.now c.loop-i.i (pos 0))
    × (c.in_ok-sum.sum ≡ to_z w128 c.loop-i.sum-bits +ℤ get_or c.args.coef.now c.loop-i.i (pos 0) *ℤ get_or c.args.num.now c.loop-i.i (pos 0)) =
    simp (to_z-of_z, a, b) at c.in_ok-sum.ensures in
    simp (to_z-of_z, s)
    (rw said.1 (sum_more (to_z w128 c.loop-i.sum-bits) c.loop-i.i c.args.coef.now c.args.num.now c.loop-i.invariant c.loop-i-test.true c.requires.sized said.0))

pub returns : goal.returns
returns c = sum_all (to_z w128 c.loop-i.sum-bits) c.loop-i.i c.args.coef.now c.args.num.now c.loop-i.invariant c.loop-i-test.false c.requires.sized
