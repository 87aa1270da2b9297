use Rattle.number_specs.proofs.ExampleTexts.{texts}
use Rattle.number_specs.proofs.examples.some_texts.Goals as goal

pub returns : goal.returns
returns c = texts
