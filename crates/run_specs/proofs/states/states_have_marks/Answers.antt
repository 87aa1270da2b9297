use Rattle.run_specs.proofs.HistoryLogLemmas.{session_has_log}
use Rattle.run_specs.proofs.StateLemmas.{states_marks}
use Rattle.run_specs.proofs.states.states_have_marks.Goals as goal

pub returns : goal.returns
returns c s i j q run is h hj e = states_marks s.history s.log i j q run (session_has_log s is) h hj e
