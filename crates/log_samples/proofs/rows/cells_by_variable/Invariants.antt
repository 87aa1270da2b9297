use Rattle.std.proofs.Common.{◌≡◌, map, take}
use Rattle.log_specs.specs.LogSessions.{cell_under}
use Rattle.log_samples.proofs.rows.cells_by_variable.Given as goal

abbrev pub invariant-loop-variable : goal.invariant-loop-variable
invariant-loop-variable l = l.by_variable.items ≡ map (cell_under l.columns l.cells) (take l.variable-index l.variables)
