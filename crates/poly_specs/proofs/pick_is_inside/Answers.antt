use Rattle.poly_specs.proofs.PickLemmas.{member}
use Rattle.poly_specs.proofs.pick_is_inside.Goals as goal

pub returns : goal.returns
returns c inside x is p = member x is p
