use Rattle.lang_specs.proofs.ExampleTokens.{texts}
use Rattle.lang_specs.proofs.examples.some_texts.Goals as goal

pub returns : goal.returns
returns c = texts
