use Rattle.poly_specs.proofs.PickingLemmas.{point_or_none}
use Rattle.poly_specs.proofs.pickings.a_point_or_none.Goals as goal

pub returns : goal.returns
returns c n rows wide = point_or_none n rows wide
