use Rattle.std.proofs.Common.{length, ap}
use Rattle.gap_runs.proofs.PartLemmas.{jump_part}
use Rattle.gap_runs.proofs.befores.jump_before.Goals as goal

pub returns-clause-ok : goal.returns-clause-ok
returns-clause-ok c =
    jump_part c.args.a.now c.args.trans c.args.state.now.rows c.args.after.now c.in_ok-point.point (length c.vars-m.result.now) c.in_ok-before.before
    (ap length c.vars-m.ensures.value) c.in_ok-point.ensures.ok c.in_ok-before.ensures
