use Rattle.run_check.proofs.LegLemmas.{slopes_wide}
use Rattle.run_check.proofs.legs.leg_moves.Goals as goal

pub rows_hold-requires-clause-wide : goal.rows_hold-requires-clause-wide
rows_hold-requires-clause-wide c =
    slopes_wide c.args.slopes.now c.as_slice.result.now c.args.from.now c.args.leg.now.at_end c.args.leg.now.length_of
    (rw c.as_slice.ensures c.in-Some.ensures.1) c.requires.sized c.requires.wide
