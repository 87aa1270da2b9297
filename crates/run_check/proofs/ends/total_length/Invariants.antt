use Rattle.std.proofs.Common.{drop}
use Rattle.run_check.proofs.EndLemmas.{LengthsSoFar}
use Rattle.run_check.proofs.ends.total_length.Given as goal

abbrev pub invariant-loop-m : goal.invariant-loop-m
invariant-loop-m l = LengthsSoFar l.sum l.gap.moves l.gap.last (drop l.m-index l.m-items)
