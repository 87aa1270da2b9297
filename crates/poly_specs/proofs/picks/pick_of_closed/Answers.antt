use Rattle.poly_specs.proofs.PickExistence.{closed_pick}
use Rattle.poly_specs.proofs.picks.pick_of_closed.Goals as goal

pub returns : goal.returns
returns c inside low high x is l h cl ch p = closed_pick low high x is l h cl ch p
