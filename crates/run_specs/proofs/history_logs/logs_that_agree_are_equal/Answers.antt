use Rattle.run_specs.proofs.HistoryLogLemmas.{logs_equal}
use Rattle.run_specs.proofs.history_logs.logs_that_agree_are_equal.Goals as goal

pub returns : goal.returns
returns c = logs_equal
