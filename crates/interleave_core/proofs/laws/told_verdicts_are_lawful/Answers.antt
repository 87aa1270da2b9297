use Rattle.interleave_core.proofs.ReplyLemmas.{replies_are_lawful}
use Rattle.interleave_core.proofs.laws.told_verdicts_are_lawful.Goals as goal

pub returns : goal.returns
returns c = replies_are_lawful
