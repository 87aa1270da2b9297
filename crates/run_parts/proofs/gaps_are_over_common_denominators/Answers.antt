use Rattle.run_parts.proofs.FirstGaps.{gap_common}
use Rattle.run_parts.proofs.gaps_are_over_common_denominators.Goals as goal

pub returns : goal.returns
returns c = gap_common
