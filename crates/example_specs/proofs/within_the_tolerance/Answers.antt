use Rattle.example_specs.proofs.Runs.{tolerated}
use Rattle.example_specs.proofs.within_the_tolerance.Goals as goal

pub returns : goal.returns
returns c = tolerated
