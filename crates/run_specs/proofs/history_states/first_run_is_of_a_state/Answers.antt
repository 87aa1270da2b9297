use Rattle.run_specs.proofs.HistoryLogLemmas.{history_has_log}
use Rattle.run_specs.proofs.StateLemmas.{first_run_state}
use Rattle.run_specs.specs.HistoryLogs.{log_of}
use Rattle.run_specs.proofs.history_states.first_run_is_of_a_state.Goals as goal

pub returns : goal.returns
returns c h i aim run is p hi n r = first_run_state h (log_of h) i aim run (history_has_log h is) p hi n r
