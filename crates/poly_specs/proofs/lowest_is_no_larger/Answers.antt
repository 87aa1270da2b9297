use Rattle.poly_specs.proofs.LowestLemmas.{lowest-no_larger}
use Rattle.poly_specs.proofs.lowest_is_no_larger.Goals as goal

pub returns : goal.returns
returns c = lowest-no_larger
