use Rattle.lang_specs.proofs.ExampleTokens.{printed}
use Rattle.lang_specs.proofs.examples.some_canonical_texts.Goals as goal

pub returns : goal.returns
returns c = printed
