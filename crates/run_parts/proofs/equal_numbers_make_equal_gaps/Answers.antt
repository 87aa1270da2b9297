use Rattle.run_parts.proofs.WideGaps.{equal_gaps}
use Rattle.run_parts.proofs.equal_numbers_make_equal_gaps.Goals as goal

pub returns : goal.returns
returns c = equal_gaps
