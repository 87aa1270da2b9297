use Rattle.run_specs.proofs.HistoryLogLemmas.{history_has_log, log_length}
use Rattle.run_specs.proofs.history_logs.histories_have_logs.Goals as goal

pub returns : goal.returns
returns c = record { log = λ h is. (history_has_log h is).is_log; one_for_each = λ h. log_length h; entries = λ h is. (history_has_log h is).entries }
