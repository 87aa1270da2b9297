use Rattle.poly_specs.proofs.LinearLemmas.{Holds-same_point}
use Rattle.poly_specs.proofs.equal_points.Goals as goal

pub returns : goal.returns
returns c = Holds-same_point
