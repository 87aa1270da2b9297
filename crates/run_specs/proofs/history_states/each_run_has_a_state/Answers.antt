use Rattle.run_specs.proofs.HistoryLogLemmas.{history_has_log}
use Rattle.run_specs.proofs.StateLemmas.{run_state}
use Rattle.run_specs.specs.HistoryLogs.{log_of}
use Rattle.run_specs.proofs.history_states.each_run_has_a_state.Goals as goal

pub returns : goal.returns
returns c h i run is p hi n r = run_state h (log_of h) i run (history_has_log h is) p hi n r
