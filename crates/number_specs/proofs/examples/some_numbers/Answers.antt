use Rattle.number_specs.proofs.ExampleTexts.{numbers}
use Rattle.number_specs.proofs.examples.some_numbers.Goals as goal

pub returns : goal.returns
returns c = numbers
