use Rattle.column_pick.proofs.PartedLemmas.{no_sum, half_formed}
use Rattle.column_pick.proofs.parts.half_of_sum.Goals as goal

pub returns-in_err-sum : goal.returns-in_err-sum
returns-in_err-sum c = no_sum c.from_residual.result c.args.low.now c.args.high.now c.from_residual.ensures c.in_err-sum.ensures

pub returns : goal.returns
returns c =
    half_formed c.parted.result c.args.low.now c.args.high.now c.in_ok-sum.sum c.see_kept.ensures.positive c.see_kept-2.ensures.positive
    c.in_ok-sum.ensures.0 c.in_ok-sum.ensures.1 c.parted.ensures
