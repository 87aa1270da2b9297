use Rattle.std.proofs.Common.{ℕ, ◌<◌, Ok}
use Rattle.replay_specs.specs.RunChecks.{GapAnswers}
use Rattle.run_check.proofs.check.first_stop.Given as goal

abbrev pub invariant-loop-i : goal.invariant-loop-i
invariant-loop-i l = (j : ℕ) → j < l.i → GapAnswers l.a l.jumps l.log l.run j (Ok tt)
