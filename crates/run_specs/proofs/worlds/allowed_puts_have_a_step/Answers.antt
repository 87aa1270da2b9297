use Rattle.run_specs.proofs.WorldLemmas.{puts_step}
use Rattle.run_specs.proofs.worlds.allowed_puts_have_a_step.Goals as goal

pub returns : goal.returns
returns c = puts_step
