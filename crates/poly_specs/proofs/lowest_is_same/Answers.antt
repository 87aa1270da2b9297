use Rattle.poly_specs.proofs.LowestLemmas.{lowest-IsFraction, lowest-same}
use Rattle.poly_specs.proofs.lowest_is_same.Goals as goal

pub returns : goal.returns
returns c x h = (lowest-IsFraction x h, lowest-same x)
