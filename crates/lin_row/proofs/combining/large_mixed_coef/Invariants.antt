use Rattle.std.proofs.Common.{◌≡◌}
use Rattle.lin_row.proofs.MixLemmas.{MixSoFar}
use Rattle.lin_row.proofs.combining.large_mixed_coef.Given as goal

abbrev pub invariant-loop-i : goal.invariant-loop-i
invariant-loop-i l = MixSoFar l.p l.lower l.q l.upper l.i l.sums.items × (l.sums.capacity ≡ 14)
