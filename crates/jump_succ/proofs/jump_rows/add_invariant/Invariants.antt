use Rattle.std.proofs.Common.{◌≡◌, ◌++◌, map, take}
use Rattle.run_specs.specs.Stages.{jump_inside_after}
use Rattle.jump_succ.proofs.jump_rows.add_invariant.Given as goal

abbrev pub invariant-loop-row : goal.invariant-loop-row
invariant-loop-row l = l.rows.items ≡ l.initial.rows.items ++ map (jump_inside_after l.m) (take l.row-index l.inside)
