use Rattle.std.proofs.Common.{◌≡◌, drop}
use Rattle.model_specs.specs.Faults.{unknown_in_rows}
use Rattle.lha_check.proofs.expressions.known_in_rows.Given as goal

abbrev pub invariant-loop-row : goal.invariant-loop-row
invariant-loop-row l = unknown_in_rows l.line l.vars l.rows ≡ unknown_in_rows l.line l.vars (drop l.row-index l.rows)
