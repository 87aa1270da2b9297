use Rattle.log_specs.proofs.ExampleTexts.{lengths}
use Rattle.log_specs.proofs.examples.long_lines.Goals as goal

pub returns : goal.returns
returns c = lengths
