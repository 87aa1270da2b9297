use Rattle.run_specs.proofs.HistoryLogLemmas.{history_has_log}
use Rattle.run_specs.proofs.StateLemmas.{states_marks}
use Rattle.run_specs.specs.HistoryLogs.{log_of}
use Rattle.run_specs.proofs.history_states.states_have_marks.Goals as goal

pub returns : goal.returns
returns c h i j q run is hi hj e = states_marks h (log_of h) i j q run (history_has_log h is) hi hj e
