use Rattle.example_specs.proofs.BoundExamples.{combined}
use Rattle.example_specs.proofs.sums.one_combination.Goals as goal

pub returns : goal.returns
returns c = combined
