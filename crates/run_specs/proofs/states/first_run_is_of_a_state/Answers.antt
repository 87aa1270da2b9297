use Rattle.run_specs.proofs.HistoryLogLemmas.{session_has_log}
use Rattle.run_specs.proofs.StateLemmas.{first_run_state}
use Rattle.run_specs.proofs.states.first_run_is_of_a_state.Goals as goal

pub returns : goal.returns
returns c s i aim run is p h n r = first_run_state s.history s.log i aim run (session_has_log s is) p h n r
