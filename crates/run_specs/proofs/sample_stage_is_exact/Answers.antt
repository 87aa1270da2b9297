use Rattle.run_specs.proofs.SampleEnds.{sample_ends}
use Rattle.run_specs.proofs.sample_stage_is_exact.Goals as goal

pub returns : goal.returns
returns c a duration cells state d end ht hc lc wide hd le = sample_ends a duration cells state d end ht hc lc wide hd le
