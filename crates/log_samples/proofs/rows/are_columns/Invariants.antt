use Rattle.std.proofs.Common.{◌≡◌, length}
use Rattle.log_specs.specs.LogSessions.{are_columns}
use Rattle.log_samples.proofs.rows.are_columns.Given as goal

abbrev pub invariant-loop-rest : goal.invariant-loop-rest
invariant-loop-rest l = are_columns l.variables l.rest ≡ are_columns l.variables l.names

abbrev pub decreases-loop-rest : goal.decreases-loop-rest
decreases-loop-rest l = length l.rest
