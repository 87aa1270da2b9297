use Rattle.example_specs.proofs.ShutterFirst.{half_is_first}
use Rattle.example_specs.proofs.shutter_first_run.Goals as goal

pub returns : goal.returns
returns c = half_is_first
