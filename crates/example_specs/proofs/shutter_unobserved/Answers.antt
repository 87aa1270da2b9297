use Rattle.example_specs.proofs.Runs.{half_is, half_visits}
use Rattle.example_specs.proofs.shutter_unobserved.Goals as goal

pub returns : goal.returns
returns c = (half_is, (_, half_is, half_visits))
