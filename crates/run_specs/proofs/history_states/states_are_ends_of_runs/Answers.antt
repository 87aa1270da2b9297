use Rattle.run_specs.proofs.HistoryLogLemmas.{history_has_log}
use Rattle.run_specs.proofs.StateLemmas.{states_ends}
use Rattle.run_specs.specs.HistoryLogs.{log_of}
use Rattle.run_specs.proofs.history_states.states_are_ends_of_runs.Goals as goal

pub returns : goal.returns
returns c h i j q is p hi hj hq sized = states_ends h (log_of h) i j q (history_has_log h is) p hi hj hq sized
