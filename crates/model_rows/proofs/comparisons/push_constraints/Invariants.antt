use Rattle.std.proofs.Common.{◌≡◌, ◌++◌, map, take}
use Rattle.model_specs.specs.Constraints.{constraint}
use Rattle.model_rows.proofs.comparisons.push_constraints.Given as goal

abbrev pub invariant-loop-row : goal.invariant-loop-row
invariant-loop-row l = l.said.items ≡ l.initial.said.items ++ map (constraint l.vars) (take l.row-index l.rows)
