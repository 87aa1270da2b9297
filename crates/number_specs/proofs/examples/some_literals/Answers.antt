use Rattle.number_specs.proofs.ExampleTexts.{literals}
use Rattle.number_specs.proofs.examples.some_literals.Goals as goal

pub returns : goal.returns
returns c = literals
