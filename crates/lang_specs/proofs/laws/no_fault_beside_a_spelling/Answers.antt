use Rattle.lang_specs.proofs.FaultLemmas.{none_beside}
use Rattle.lang_specs.proofs.laws.no_fault_beside_a_spelling.Goals as goal

pub returns : goal.returns
returns c = none_beside
