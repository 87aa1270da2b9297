use Rattle.lang_specs.proofs.ExampleFaults.{odd_version}
use Rattle.lang_specs.proofs.examples.an_odd_version.Goals as goal

pub returns : goal.returns
returns c = odd_version
