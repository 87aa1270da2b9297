use Rattle.run_parts.proofs.FirstGaps.{long_passes}
use Rattle.run_parts.proofs.long_first_runs_pass.Goals as goal

pub returns : goal.returns
returns c = long_passes
