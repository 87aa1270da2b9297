use Rattle.std.proofs.Common.{◌≡◌, ◌++◌, map, take}
use Rattle.run_specs.specs.Stages.{leg_inside_before}
use Rattle.time_succ.proofs.leg_rows.add_inside_before.Given as goal

abbrev pub invariant-loop-row : goal.invariant-loop-row
invariant-loop-row l = l.rows.items ≡ l.initial.rows.items ++ map (leg_inside_before l.m) (take l.row-index l.inside)
