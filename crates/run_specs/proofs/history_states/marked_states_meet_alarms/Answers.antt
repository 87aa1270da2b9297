use Rattle.run_specs.proofs.HistoryLogLemmas.{history_has_log}
use Rattle.run_specs.proofs.StateLemmas.{marked_meet}
use Rattle.run_specs.specs.HistoryLogs.{log_of}
use Rattle.run_specs.proofs.history_states.marked_states_meet_alarms.Goals as goal

pub returns : goal.returns
returns c h i j is hi hj = marked_meet h (log_of h) i j (history_has_log h is) hi hj
