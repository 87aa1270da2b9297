use Rattle.lang_specs.proofs.ExampleFaults.{too_long_a_name}
use Rattle.lang_specs.proofs.examples.a_long_name.Goals as goal

pub returns : goal.returns
returns c = too_long_a_name
