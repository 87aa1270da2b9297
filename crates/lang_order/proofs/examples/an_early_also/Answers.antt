use Rattle.lang_order.proofs.ExampleFaults.{also_before_flow}
use Rattle.lang_order.proofs.examples.an_early_also.Goals as goal

pub returns : goal.returns
returns c = also_before_flow
