use Rattle.std.proofs.Common.{inr}
use Rattle.example_specs.proofs.CoprimeFirst.{no_log_passes, coprime_first, coprime_passes}
use Rattle.example_specs.specs.Coprimes.{coprime_run}
use Rattle.example_specs.proofs.run_that_passes.Goals as goal

pub returns : goal.returns
returns c = record {
  log = λ h. no_log_passes 0 h;
  first = coprime_first;
  passes = coprime_passes;
  run = inr (coprime_run, coprime_first, coprime_passes);
}
