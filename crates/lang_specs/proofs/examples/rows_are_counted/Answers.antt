use Rattle.lang_specs.proofs.ExampleTokens.{counts}
use Rattle.lang_specs.proofs.examples.rows_are_counted.Goals as goal

pub returns : goal.returns
returns c = counts
