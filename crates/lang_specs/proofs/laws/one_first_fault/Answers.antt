use Rattle.lang_specs.proofs.FaultLemmas.{one_first}
use Rattle.lang_specs.proofs.laws.one_first_fault.Goals as goal

pub returns : goal.returns
returns c = one_first
