use Rattle.log_specs.proofs.ReportLemmas.{same_state}
use Rattle.log_specs.proofs.same_sessions.Goals as goal

pub returns : goal.returns
returns c = same_state
