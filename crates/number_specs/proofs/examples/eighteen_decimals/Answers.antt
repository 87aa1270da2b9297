use Rattle.number_specs.proofs.ExampleTexts.{decimals}
use Rattle.number_specs.proofs.examples.eighteen_decimals.Goals as goal

pub returns : goal.returns
returns c = decimals
