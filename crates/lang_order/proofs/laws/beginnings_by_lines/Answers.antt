use Rattle.lang_order.proofs.Viable.{viable_by_lines}
use Rattle.lang_order.proofs.laws.beginnings_by_lines.Goals as goal

pub returns : goal.returns
returns c = viable_by_lines
