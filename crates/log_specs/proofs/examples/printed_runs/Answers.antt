use Rattle.log_specs.proofs.ExampleAlarms.{none_is, one_is, both_are}
use Rattle.log_specs.proofs.examples.printed_runs.Goals as goal

pub returns : goal.returns
returns c = (none_is, one_is, both_are)
