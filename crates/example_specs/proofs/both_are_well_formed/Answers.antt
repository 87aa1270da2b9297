use Rattle.example_specs.proofs.WellFormed.{tank_is, shutter_is}
use Rattle.example_specs.proofs.both_are_well_formed.Goals as goal

pub returns : goal.returns
returns c = (tank_is, shutter_is)
