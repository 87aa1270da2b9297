use Rattle.std.proofs.Common.{rules, SFits, to_z}
use Rattle.std.specs.Int.{w128}
use Rattle.std.proofs.lemmas.Int.{to_z-of_z}
use Rattle.run_check.proofs.EndLemmas.{lengths_more, lengths_stop, lengths_are}
use Rattle.run_check.proofs.ends.total_length.Goals as goal

pub returns-in_err-sum : goal.returns-in_err-sum
returns-in_err-sum c =
    let g = c.args.gap.now in
    let stay : SFits w128 c.stay.result = search rules in
    let refused = simp (c.stay.ensures, c.leg.ensures) at (simp (to_z-of_z, stay) at c.in_err-sum.ensures) in
    rw c.from_residual.ensures
    (lengths_stop (to_z w128 c.loop-m.sum-bits) g.moves g.last c.moves-m-items.result.now c.loop-m.m-index c.m-item.result c.loop-m-test.true c.m-item.is
    c.loop-m.invariant refused)

pub loop-m-preserved : goal.loop-m-preserved
loop-m-preserved c =
    let g = c.args.gap.now in
    let stay : SFits w128 c.stay.result = search rules in
    let sum : SFits w128 c.in_ok-sum.sum = search rules in
    let said = simp (c.stay.ensures, c.leg.ensures) at (simp (to_z-of_z, stay) at c.in_ok-sum.ensures) in
    simp (to_z-of_z, sum)
    (rw said.1
    (lengths_more (to_z w128 c.loop-m.sum-bits) g.moves g.last c.moves-m-items.result.now c.loop-m.m-index c.m-item.result c.loop-m-test.true c.m-item.is
    c.loop-m.invariant said.0))

pub returns : goal.returns
returns c =
    let g = c.args.gap.now in
    let stay : SFits w128 c.stay-2.result = search rules in
    lengths_are (to_z w128 c.loop-m.sum-bits) g.moves g.last c.moves-m-items.result.now c.loop-m.m-index c.kept_sum-2.result c.loop-m-test.false
    c.loop-m.invariant (simp (c.stay-2.ensures, c.last.ensures) at (simp (to_z-of_z, stay) at c.kept_sum-2.ensures))
