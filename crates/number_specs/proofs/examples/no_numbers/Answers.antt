use Rattle.number_specs.proofs.ExampleTexts.{no_numbers}
use Rattle.number_specs.proofs.examples.no_numbers.Goals as goal

pub returns : goal.returns
returns c = no_numbers
