use Rattle.text_specs.proofs.TextLemmas.{one_of_faults}
use Rattle.text_specs.proofs.one_fault.Goals as goal

pub returns : goal.returns
returns c = one_of_faults
