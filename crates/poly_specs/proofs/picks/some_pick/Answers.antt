use Rattle.poly_specs.proofs.PickExistence.{some_pick}
use Rattle.poly_specs.proofs.picks.some_pick.Goals as goal

pub returns : goal.returns
returns c inside low high is some l h = some_pick inside low high is some l h
