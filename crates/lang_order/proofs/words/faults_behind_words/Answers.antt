use Rattle.lang_order.proofs.WordFaults.{fault_of_body}
use Rattle.lang_order.proofs.words.faults_behind_words.Goals as goal

pub returns : goal.returns
returns c = fault_of_body
