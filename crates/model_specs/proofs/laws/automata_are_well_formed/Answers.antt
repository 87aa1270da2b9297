use Rattle.model_specs.proofs.WellFormedLemmas.{spelled_well}
use Rattle.model_specs.proofs.laws.automata_are_well_formed.Goals as goal

pub returns : goal.returns
returns c = spelled_well
