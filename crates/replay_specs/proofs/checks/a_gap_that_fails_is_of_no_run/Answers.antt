use Rattle.replay_specs.proofs.RunCheckLemmas.{that_fails}
use Rattle.replay_specs.proofs.checks.a_gap_that_fails_is_of_no_run.Goals as goal

pub returns : goal.returns
returns c = that_fails
