use Rattle.run_specs.proofs.HistoryLemmas.{same_history}
use Rattle.run_specs.proofs.histories.equal_histories.Goals as goal

pub returns : goal.returns
returns c h k = same_history h k
