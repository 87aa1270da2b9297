use Rattle.log_specs.proofs.ExampleReports.{reopened_is}
use Rattle.log_specs.proofs.examples.reopened_session.Goals as goal

pub returns : goal.returns
returns c = reopened_is
