use Rattle.std.proofs.Common.{◌≡◌, SFits, rules, pos, get_or, ◌+ℤ◌, ◌*ℤ◌, to_z}
use Rattle.std.specs.Int.{w128}
use Rattle.std.proofs.lemmas.Int.{to_z-of_z}
use Rattle.poly_specs.specs.Rows.{coef_at}
use Rattle.point_hints.proofs.SumLemmas.{sum_step, sum_end}
use Rattle.point_hints.proofs.certificates.column_sum.Goals as goal

pub loop-at-preserved : goal.loop-at-preserved
loop-at-preserved c =
    let a : SFits w128 (get_or c.args.factors.now c.loop-at.at (pos 0)) = search rules in
    let b : SFits w128 c.coefficient.result = search rules in
    let s : SFits w128 c.in_ok-sum.sum = search rules in
    let step : c.in_ok-sum.sum ≡ to_z w128 c.loop-at.sum-bits +ℤ get_or c.args.factors.now c.loop-at.at (pos 0) *ℤ coef_at c.args.column c.index-rows-at.result =
    rw (← c.coefficient.ensures) (simp (to_z-of_z, a, b) at c.in_ok-sum.ensures) in
    simp (to_z-of_z, s)
    (sum_step (coef_at c.args.column) c.args.factors.now c.args.rows.now c.loop-at.at c.index-rows-at.result (to_z w128 c.loop-at.sum-bits) c.in_ok-sum.sum
    c.loop-at-test.true c.requires.sized c.index-rows-at.is c.loop-at.invariant step)

pub returns : goal.returns
returns c =
    sum_end (coef_at c.args.column) c.args.factors.now c.args.rows.now c.loop-at.at (to_z w128 c.loop-at.sum-bits) c.loop-at-test.false c.requires.sized
    c.loop-at.invariant
