use Rattle.poly_specs.proofs.PickLemmas.{unique}
use Rattle.poly_specs.proofs.one_pick.Goals as goal

pub returns : goal.returns
returns c inside x y is px py = unique x y is px py
