use Rattle.log_specs.proofs.ExampleReports.{timed_is}
use Rattle.log_specs.proofs.examples.refused_times.Goals as goal

pub returns : goal.returns
returns c = timed_is
