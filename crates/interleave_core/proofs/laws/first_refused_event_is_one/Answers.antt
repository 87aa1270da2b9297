use Rattle.interleave_core.proofs.CourseLemmas.{one_place}
use Rattle.interleave_core.proofs.laws.first_refused_event_is_one.Goals as goal

pub returns : goal.returns
returns c = one_place
