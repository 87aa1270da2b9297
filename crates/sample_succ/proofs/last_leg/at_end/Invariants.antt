use Rattle.std.proofs.Common.{◌≡◌, map, take}
use Rattle.sample_succ.specs.LastLegs.{at_leg_end}
use Rattle.sample_succ.proofs.last_leg.at_end.Given as goal

abbrev pub invariant-loop-row : goal.invariant-loop-row
invariant-loop-row l = l.moved.items ≡ map (at_leg_end l.m) (take l.row-index l.rows)
