use Rattle.lang_specs.proofs.FaultLemmas.{viable_front}
use Rattle.lang_specs.proofs.laws.beginnings_are_viable.Goals as goal

pub returns : goal.returns
returns c = viable_front
