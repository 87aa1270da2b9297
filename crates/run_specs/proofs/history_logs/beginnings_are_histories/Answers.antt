use Rattle.run_specs.proofs.HistoryLogLemmas.{history-first, log-first}
use Rattle.run_specs.proofs.history_logs.beginnings_are_histories.Goals as goal

pub returns : goal.returns
returns c = record { history = λ h i is. history-first h i is; log = λ h i. log-first h i }
