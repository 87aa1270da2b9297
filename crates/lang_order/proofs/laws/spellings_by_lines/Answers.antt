use Rattle.lang_order.proofs.FirstFaults.{spelling_by_lines}
use Rattle.lang_order.proofs.laws.spellings_by_lines.Goals as goal

pub returns : goal.returns
returns c = spelling_by_lines
