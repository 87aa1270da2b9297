use Rattle.lang_specs.proofs.ExampleTokens.{lines}
use Rattle.lang_specs.proofs.examples.some_lines.Goals as goal

pub returns : goal.returns
returns c = lines
