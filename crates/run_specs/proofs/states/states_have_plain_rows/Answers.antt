use Rattle.run_specs.proofs.HistoryLogLemmas.{session_has_log}
use Rattle.run_specs.proofs.PlainStates.{states_plain}
use Rattle.run_specs.proofs.states.states_have_plain_rows.Goals as goal

pub returns : goal.returns
returns c s i j is h hj = states_plain s.history s.log i j (session_has_log s is) h hj
