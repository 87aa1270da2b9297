use Rattle.std.proofs.Common.{length, ap}
use Rattle.gap_runs.proofs.PartLemmas.{leg_part}
use Rattle.gap_runs.proofs.befores.leg_before.Goals as goal

pub returns-clause-ok : goal.returns-clause-ok
returns-clause-ok c =
    leg_part c.args.a.now c.args.loc c.args.state.now.rows c.args.after.now c.in_ok-point.point (length c.vars-m.result.now) c.number_at.result c.in_ok-start.start
    (ap length c.vars-m.ensures.value) c.in_ok-point.ensures.ok c.number_at.ensures c.in_ok-start.ensures
