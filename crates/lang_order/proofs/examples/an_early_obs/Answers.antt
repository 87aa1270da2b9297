use Rattle.lang_order.proofs.ExampleFaults.{obs_in_first}
use Rattle.lang_order.proofs.examples.an_early_obs.Goals as goal

pub returns : goal.returns
returns c = obs_in_first
