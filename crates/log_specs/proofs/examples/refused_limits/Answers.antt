use Rattle.log_specs.proofs.ExampleReports.{limits_are}
use Rattle.log_specs.proofs.examples.refused_limits.Goals as goal

pub returns : goal.returns
returns c = limits_are
