use Rattle.std.proofs.Common.{◌≡◌, take}
use Rattle.sample_succ.proofs.gap_walk.copied.Given as goal

abbrev pub invariant-loop-e : goal.invariant-loop-e
invariant-loop-e l = l.copy.items ≡ take l.e-index l.path
