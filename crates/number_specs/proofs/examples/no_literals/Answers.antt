use Rattle.number_specs.proofs.ExampleTexts.{no_literals}
use Rattle.number_specs.proofs.examples.no_literals.Goals as goal

pub returns : goal.returns
returns c = no_literals
