use Rattle.log_specs.proofs.ExampleReports.{numbers_are}
use Rattle.log_specs.proofs.examples.refused_numbers.Goals as goal

pub returns : goal.returns
returns c = numbers_are
