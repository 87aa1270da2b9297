use Rattle.std.proofs.Common.{◌≡◌, ℕ, ◌<◌, false}
use Rattle.run_specs.specs.Runs.{goes_unsafe, path_of}
use Rattle.replay_specs.specs.RunChecks.{gap_at}
use Rattle.run_check.proofs.check.some_visit.Given as goal

abbrev pub invariant-loop-gap : goal.invariant-loop-gap
invariant-loop-gap l = (j : ℕ) → j < l.gap-index → goes_unsafe l.a (gap_at j l.run).start_loc (path_of (gap_at j l.run)) ≡ false
