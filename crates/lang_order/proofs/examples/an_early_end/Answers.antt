use Rattle.lang_order.proofs.ExampleFaults.{end_behind_var}
use Rattle.lang_order.proofs.examples.an_early_end.Goals as goal

pub returns : goal.returns
returns c = end_behind_var
