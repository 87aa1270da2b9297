use Rattle.run_specs.proofs.WorldLemmas.{events_step}
use Rattle.run_specs.proofs.worlds.allowed_events_have_a_step.Goals as goal

pub returns : goal.returns
returns c = events_step
