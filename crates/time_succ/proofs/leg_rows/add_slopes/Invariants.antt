use Rattle.std.proofs.Common.{◌≡◌, ◌++◌, map, take}
use Rattle.run_specs.specs.Stages.{leg_slope}
use Rattle.time_succ.proofs.leg_rows.add_slopes.Given as goal

abbrev pub invariant-loop-row : goal.invariant-loop-row
invariant-loop-row l = l.rows.items ≡ l.initial.rows.items ++ map (leg_slope l.m) (take l.row-index l.slopes)
