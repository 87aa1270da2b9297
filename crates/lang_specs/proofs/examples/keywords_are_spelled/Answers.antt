use Rattle.lang_specs.proofs.ExampleTokens.{words}
use Rattle.lang_specs.proofs.examples.keywords_are_spelled.Goals as goal

pub returns : goal.returns
returns c = words
