use Rattle.model_specs.proofs.NoFaultLemmas.{names_once}
use Rattle.model_specs.proofs.laws.names_are_distinct.Goals as goal

pub returns : goal.returns
returns c = names_once
