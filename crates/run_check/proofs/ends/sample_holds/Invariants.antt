use Rattle.std.proofs.Common.{Ok}
use Rattle.run_specs.specs.Runs.{end_point}
use Rattle.replay_specs.specs.RunChecks.{Answers, near_steps}
use Rattle.run_check.proofs.ends.sample_holds.Given as goal

abbrev pub invariant-loop-j : goal.invariant-loop-j
invariant-loop-j l = Answers (near_steps l.a l.sample.cells (end_point l.gap) l.j) (Ok tt)
