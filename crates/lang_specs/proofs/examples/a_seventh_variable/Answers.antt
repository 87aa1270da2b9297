use Rattle.lang_specs.proofs.ExampleLimits.{seventh_passes}
use Rattle.lang_specs.proofs.examples.a_seventh_variable.Goals as goal

pub returns : goal.returns
returns c = seventh_passes
