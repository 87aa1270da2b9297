use Rattle.log_specs.proofs.ExampleReports.{headless_is}
use Rattle.log_specs.proofs.examples.refused_header.Goals as goal

pub returns : goal.returns
returns c = headless_is
