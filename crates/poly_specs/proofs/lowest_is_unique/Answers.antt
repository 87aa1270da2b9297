use Rattle.poly_specs.proofs.LowestLemmas.{lowest-unique}
use Rattle.poly_specs.proofs.lowest_is_unique.Goals as goal

pub returns : goal.returns
returns c = lowest-unique
