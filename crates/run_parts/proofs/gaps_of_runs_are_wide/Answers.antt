use Rattle.run_parts.proofs.WideGaps.{run_gaps_wide}
use Rattle.run_parts.proofs.gaps_of_runs_are_wide.Goals as goal

pub returns : goal.returns
returns c = run_gaps_wide
