use Rattle.example_specs.proofs.TankBounds.{three_has_none}
use Rattle.example_specs.proofs.past_the_tolerance.Goals as goal

pub returns : goal.returns
returns c possible = three_has_none possible.0 possible.1
