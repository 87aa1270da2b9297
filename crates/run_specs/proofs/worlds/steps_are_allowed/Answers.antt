use Rattle.run_specs.proofs.WorldLemmas.{steps_allowed}
use Rattle.run_specs.proofs.worlds.steps_are_allowed.Goals as goal

pub returns : goal.returns
returns c w v event told h = steps_allowed w v event told h
