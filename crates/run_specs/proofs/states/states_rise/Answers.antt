use Rattle.run_specs.proofs.HistoryLogLemmas.{session_has_log}
use Rattle.run_specs.proofs.StateLemmas.{states_rising, states_many}
use Rattle.run_specs.proofs.states.states_rise.Goals as goal

pub returns : goal.returns
returns c = record {
  rise = λ s i is h. states_rising s.history s.log i (session_has_log s is) h;
  as_many = λ s i is h. states_many s.history s.log i (session_has_log s is) h;
}
