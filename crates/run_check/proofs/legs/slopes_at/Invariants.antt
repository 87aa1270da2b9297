use Rattle.std.proofs.Common.{◌≡◌}
use Rattle.run_check.proofs.LegLemmas.{SlopesSoFar}
use Rattle.run_check.proofs.legs.slopes_at.Given as goal

abbrev pub invariant-loop-i : goal.invariant-loop-i
invariant-loop-i l = SlopesSoFar l.at.items l.i l.from l.end × (l.at.capacity ≡ 14)
