use Rattle.example_specs.proofs.BoundExamples.{limit_is}
use Rattle.example_specs.proofs.sums.bound_that_is_not_met.Goals as goal

pub returns : goal.returns
returns c = limit_is
