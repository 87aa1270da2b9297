use Rattle.log_specs.proofs.ExampleTexts.{fields}
use Rattle.log_specs.proofs.examples.some_fields.Goals as goal

pub returns : goal.returns
returns c = fields
