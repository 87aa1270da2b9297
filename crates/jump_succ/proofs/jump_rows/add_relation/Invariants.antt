use Rattle.std.proofs.Common.{◌≡◌, ◌++◌, map, take}
use Rattle.run_specs.specs.Stages.{jump_related}
use Rattle.jump_succ.proofs.jump_rows.add_relation.Given as goal

abbrev pub invariant-loop-row : goal.invariant-loop-row
invariant-loop-row l = l.rows.items ≡ l.initial.rows.items ++ map (jump_related l.m) (take l.row-index l.relation)
