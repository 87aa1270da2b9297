use Rattle.run_specs.proofs.HistoryLogLemmas.{session_has_log}
use Rattle.run_specs.proofs.StateLemmas.{states_ends}
use Rattle.run_specs.proofs.states.states_are_ends_of_runs.Goals as goal

pub returns : goal.returns
returns c s i j q is p h hj hq sized = states_ends s.history s.log i j q (session_has_log s is) p h hj hq sized
