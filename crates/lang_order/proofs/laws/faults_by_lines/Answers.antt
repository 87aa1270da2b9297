use Rattle.lang_order.proofs.FirstFaults.{first_by_lines}
use Rattle.lang_order.proofs.laws.faults_by_lines.Goals as goal

pub returns : goal.returns
returns c = first_by_lines
