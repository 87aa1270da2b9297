use Rattle.run_parts.proofs.FirstGaps.{gaps_of_aimed}
use Rattle.run_parts.proofs.aimed_runs_have_gaps.Goals as goal

pub returns : goal.returns
returns c = gaps_of_aimed
