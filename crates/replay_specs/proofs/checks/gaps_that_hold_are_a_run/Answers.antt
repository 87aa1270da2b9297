use Rattle.replay_specs.proofs.RunCheckLemmas.{that_hold}
use Rattle.replay_specs.proofs.checks.gaps_that_hold_are_a_run.Goals as goal

pub returns : goal.returns
returns c = that_hold
