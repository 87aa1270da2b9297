use Rattle.example_specs.proofs.Runs.{one_in_each_is, two_in_one_is}
use Rattle.example_specs.proofs.TankBounds.{two_are_too_many}
use Rattle.example_specs.proofs.jumps_are_counted_in_each_gap.Goals as goal

pub returns : goal.returns
returns c = (one_in_each_is, two_are_too_many, two_in_one_is)
