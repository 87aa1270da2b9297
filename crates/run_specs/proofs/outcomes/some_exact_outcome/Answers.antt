use Rattle.run_specs.proofs.SomeOutcome.{some_items}
use Rattle.run_specs.proofs.outcomes.some_exact_outcome.Goals as goal

pub returns : goal.returns
returns c key wf is = some_items key wf is
