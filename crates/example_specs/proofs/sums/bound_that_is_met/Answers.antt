use Rattle.example_specs.proofs.BoundExamples.{greatest_is}
use Rattle.example_specs.proofs.sums.bound_that_is_met.Goals as goal

pub returns : goal.returns
returns c = greatest_is
