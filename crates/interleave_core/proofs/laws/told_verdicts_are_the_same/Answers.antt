use Rattle.interleave_core.proofs.CourseLemmas.{one_telling}
use Rattle.interleave_core.proofs.laws.told_verdicts_are_the_same.Goals as goal

pub returns : goal.returns
returns c = one_telling
