use Rattle.run_specs.proofs.HistoryLogLemmas.{log_is_this}
use Rattle.run_specs.proofs.history_logs.one_log_of_a_history.Goals as goal

pub returns : goal.returns
returns c = log_is_this
