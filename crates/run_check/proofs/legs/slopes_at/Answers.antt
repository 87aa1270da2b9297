use Rattle.std.proofs.Common.{SFits, rules, get_or, pos}
use Rattle.std.specs.Int.{w128}
use Rattle.std.proofs.lemmas.Int.{to_z-of_z}
use Rattle.run_check.proofs.LegLemmas.{slopes_more, slopes_stop}
use Rattle.run_check.proofs.legs.slopes_at.Goals as goal

pub returns-in_err-kept_difference : goal.returns-in_err-kept_difference
returns-in_err-kept_difference c =
    let a : SFits w128 (get_or c.at_end-end.result.now c.loop-i.i (pos 0)) = search rules in
    let b : SFits w128 (get_or c.args.from.now c.loop-i.i (pos 0)) = search rules in
    let refused = simp (to_z-of_z, a, b) at c.in_err-kept_difference.ensures in
    rw (c.from_residual.ensures)
    (rw c.at_end-end.ensures at (slopes_stop c.loop-i.at.items c.loop-i.i c.args.from.now c.at_end-end.result.now c.loop-i.invariant.0 c.loop-i-test.true
    (rw c.at_end-end.ensures c.requires.sized) refused))

pub loop-i-preserved : goal.loop-i-preserved
loop-i-preserved c =
    let a : SFits w128 (get_or c.at_end-end.result.now c.loop-i.i (pos 0)) = search rules in
    let b : SFits w128 (get_or c.args.from.now c.loop-i.i (pos 0)) = search rules in
    let v : SFits w128 c.in_ok-kept_difference.field-0 = search rules in
    let said = simp (to_z-of_z, a, b) at c.in_ok-kept_difference.ensures in
    let pushed = simp (to_z-of_z, v) at c.push_reserved.ensures.items in (
      rw (pushed, said.1)
          (slopes_more c.loop-i.at.items c.loop-i.i c.args.from.now c.at_end-end.result.now c.loop-i.invariant.0 c.loop-i-test.true
          (rw c.at_end-end.ensures c.requires.sized) said.0),
      cc,
    )
