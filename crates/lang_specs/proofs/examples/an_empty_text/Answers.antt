use Rattle.lang_specs.proofs.ExampleFaults.{empty_text}
use Rattle.lang_specs.proofs.examples.an_empty_text.Goals as goal

pub returns : goal.returns
returns c = empty_text
