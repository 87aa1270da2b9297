use Rattle.gap_runs.proofs.PathLemmas.{last_reached}
use Rattle.gap_runs.proofs.paths.last_leg.Goals as goal

pub leg_back-requires-clause-reached : goal.leg_back-requires-clause-reached
leg_back-requires-clause-reached c =
    last_reached c.args.a.now c.args.loc c.args.before.now c.args.systems.now c.args.back c.requires.path c.requires.back c.requires.inside
