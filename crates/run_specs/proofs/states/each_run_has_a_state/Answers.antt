use Rattle.run_specs.proofs.HistoryLogLemmas.{session_has_log}
use Rattle.run_specs.proofs.StateLemmas.{run_state}
use Rattle.run_specs.proofs.states.each_run_has_a_state.Goals as goal

pub returns : goal.returns
returns c s i run is p h n r = run_state s.history s.log i run (session_has_log s is) p h n r
