use Rattle.example_specs.proofs.TankBounds.{steep_has_none}
use Rattle.example_specs.proofs.too_steep.Goals as goal

pub returns : goal.returns
returns c possible = steep_has_none possible.0 possible.1
