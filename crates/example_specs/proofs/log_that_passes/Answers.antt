use Rattle.std.proofs.Common.{inl}
use Rattle.example_specs.proofs.FixedPasses.{log_passes}
use Rattle.example_specs.proofs.log_that_passes.Goals as goal

pub returns : goal.returns
returns c = record { log = λ k. log_passes k; run = λ k. inl (log_passes k) }
