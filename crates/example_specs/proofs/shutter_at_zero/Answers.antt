use Rattle.example_specs.proofs.ShutterBounds.{zero_has_none}
use Rattle.example_specs.proofs.shutter_at_zero.Goals as goal

pub returns : goal.returns
returns c possible = zero_has_none possible.0 possible.1
