use Rattle.log_specs.proofs.ExampleReports.{doubled_is}
use Rattle.log_specs.proofs.examples.doubly_refused_rows.Goals as goal

pub returns : goal.returns
returns c = doubled_is
