use Rattle.run_specs.proofs.WorldLemmas.{lists_keep}
use Rattle.run_specs.proofs.worlds.lists_of_steps_keep_worlds.Goals as goal

pub returns : goal.returns
returns c w v events told is ev h = lists_keep w v events told is ev h
