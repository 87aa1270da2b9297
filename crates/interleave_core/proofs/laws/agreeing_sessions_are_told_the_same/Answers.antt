use Rattle.interleave_core.proofs.AgreeLemmas.{same_reply}
use Rattle.interleave_core.proofs.laws.agreeing_sessions_are_told_the_same.Goals as goal

pub returns : goal.returns
returns c = same_reply
