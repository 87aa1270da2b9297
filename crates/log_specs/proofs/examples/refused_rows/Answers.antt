use Rattle.log_specs.proofs.ExampleReports.{refused_is}
use Rattle.log_specs.proofs.examples.refused_rows.Goals as goal

pub returns : goal.returns
returns c = refused_is
