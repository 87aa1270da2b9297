use Rattle.std.proofs.Common.{◌≡◌, ◌++◌, map, take}
use Rattle.run_specs.specs.Stages.{leg_before}
use Rattle.time_succ.proofs.leg_rows.add_state.Given as goal

abbrev pub invariant-loop-row : goal.invariant-loop-row
invariant-loop-row l = l.rows.items ≡ l.initial.rows.items ++ map (leg_before l.m) (take l.row-index l.state)
