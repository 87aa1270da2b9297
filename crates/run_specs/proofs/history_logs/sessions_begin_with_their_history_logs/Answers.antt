use Rattle.run_specs.proofs.HistoryLogLemmas.{log_is_this}
use Rattle.run_specs.proofs.history_logs.sessions_begin_with_their_history_logs.Goals as goal

pub returns : goal.returns
returns c s is = log_is_this s.history s.log is.log is.entries
