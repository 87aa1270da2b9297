use Rattle.run_specs.proofs.ReplyLemmas.{session_replies_lawful}
use Rattle.run_specs.proofs.sessions.session_replies_are_lawful.Goals as goal

pub returns : goal.returns
returns c = session_replies_lawful
