use Rattle.log_specs.proofs.ExampleTexts.{texts}
use Rattle.log_specs.proofs.examples.some_run_texts.Goals as goal

pub returns : goal.returns
returns c = texts
