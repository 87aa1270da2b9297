use Rattle.run_specs.proofs.HistoryLogLemmas.{history_has_log}
use Rattle.run_specs.proofs.PlainStates.{states_plain}
use Rattle.run_specs.specs.HistoryLogs.{log_of}
use Rattle.run_specs.proofs.history_states.states_have_plain_rows.Goals as goal

pub returns : goal.returns
returns c h i j is hi hj = states_plain h (log_of h) i j (history_has_log h is) hi hj
