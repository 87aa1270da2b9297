use Rattle.lang_order.proofs.WordFaults.{fault_of_version}
use Rattle.lang_order.proofs.words.faults_of_version.Goals as goal

pub returns : goal.returns
returns c = fault_of_version
