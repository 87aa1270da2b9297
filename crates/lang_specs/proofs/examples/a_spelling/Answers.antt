use Rattle.lang_specs.proofs.ExampleSpelling.{tank_spelled}
use Rattle.lang_specs.proofs.examples.a_spelling.Goals as goal

pub returns : goal.returns
returns c = tank_spelled
