use Rattle.log_specs.proofs.ReplyLemmas.{replies_are}
use Rattle.log_specs.proofs.replies_are_lawful.Goals as goal

pub returns : goal.returns
returns c = replies_are
