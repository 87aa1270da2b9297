use Rattle.run_specs.proofs.ReplyLemmas.{session_all_lawful}
use Rattle.run_specs.proofs.sessions.sessions_tell_lawful_verdicts.Goals as goal

pub returns : goal.returns
returns c = session_all_lawful
