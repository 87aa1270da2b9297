use Rattle.poly_specs.proofs.LowestLemmas.{lowest-stays}
use Rattle.poly_specs.proofs.lowest_stays.Goals as goal

pub returns : goal.returns
returns c = lowest-stays
