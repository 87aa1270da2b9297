use Rattle.lang_order.proofs.WordFaults.{fault_of_count}
use Rattle.lang_order.proofs.words.faults_of_counts.Goals as goal

pub returns : goal.returns
returns c = fault_of_count
