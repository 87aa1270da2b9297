use Rattle.interleave_core.proofs.AgreeLemmas.{were_allowed}
use Rattle.interleave_core.proofs.laws.events_that_happened_were_allowed.Goals as goal

pub returns : goal.returns
returns c = were_allowed
