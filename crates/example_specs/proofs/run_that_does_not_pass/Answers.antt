use Rattle.example_specs.proofs.FixedPasses.{zero_first, no_run_passes}
use Rattle.example_specs.proofs.run_that_does_not_pass.Goals as goal

pub returns : goal.returns
returns c = record { first = λ k. zero_first k; no_pass = λ k. no_run_passes k }
