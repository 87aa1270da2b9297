use Rattle.std.proofs.Common.{◌≡◌, ◌++◌, map, take}
use Rattle.run_specs.specs.Stages.{leg_inside_after}
use Rattle.time_succ.proofs.leg_rows.add_inside_after.Given as goal

abbrev pub invariant-loop-row : goal.invariant-loop-row
invariant-loop-row l = l.rows.items ≡ l.initial.rows.items ++ map (leg_inside_after l.m) (take l.row-index l.inside)
