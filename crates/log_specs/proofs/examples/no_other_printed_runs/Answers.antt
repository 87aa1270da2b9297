use Rattle.log_specs.proofs.ExampleAlarms.{not_both, not_one}
use Rattle.log_specs.proofs.examples.no_other_printed_runs.Goals as goal

pub returns : goal.returns
returns c = (not_both, not_one)
