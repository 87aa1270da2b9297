use Rattle.run_specs.proofs.WorldLemmas.{steps_keep}
use Rattle.run_specs.proofs.worlds.steps_keep_worlds.Goals as goal

pub returns : goal.returns
returns c w v event told is ev h = steps_keep w v event told is ev h
