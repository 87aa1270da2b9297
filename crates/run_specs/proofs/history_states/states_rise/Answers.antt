use Rattle.run_specs.proofs.HistoryLogLemmas.{history_has_log}
use Rattle.run_specs.proofs.StateLemmas.{states_rising, states_many}
use Rattle.run_specs.specs.HistoryLogs.{log_of}
use Rattle.run_specs.proofs.history_states.states_rise.Goals as goal

pub returns : goal.returns
returns c = record {
  rise = λ h i is hi. states_rising h (log_of h) i (history_has_log h is) hi;
  as_many = λ h i is hi. states_many h (log_of h) i (history_has_log h is) hi;
}
