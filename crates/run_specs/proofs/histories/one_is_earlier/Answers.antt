use Rattle.run_specs.proofs.HistoryLemmas.{one_earlier}
use Rattle.run_specs.proofs.histories.one_is_earlier.Goals as goal

pub returns : goal.returns
returns c h k = one_earlier h k
