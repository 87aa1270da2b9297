use Rattle.std.proofs.Common.{◌≡◌, map, take}
use Rattle.model_specs.specs.Constraints.{slope_constraint}
use Rattle.model_rows.proofs.slopes.slope_constraints.Given as goal

abbrev pub invariant-loop-row : goal.invariant-loop-row
invariant-loop-row l = l.said.items ≡ map (slope_constraint l.vars) (take l.row-index l.rows)
