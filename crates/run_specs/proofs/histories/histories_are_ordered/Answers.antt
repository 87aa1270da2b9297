use Rattle.run_specs.proofs.HistoryLemmas.{history_total}
use Rattle.run_specs.proofs.histories.histories_are_ordered.Goals as goal

pub returns : goal.returns
returns c = history_total
