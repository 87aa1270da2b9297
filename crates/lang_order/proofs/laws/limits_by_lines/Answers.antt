use Rattle.lang_order.proofs.Kept.{kept_by_lines}
use Rattle.lang_order.proofs.laws.limits_by_lines.Goals as goal

pub returns : goal.returns
returns c = kept_by_lines
