use Rattle.std.proofs.Common.{◌≡◌, ◌<◌, map, length, take, drop}
use Rattle.std.specs.Prelude.{All}
use Rattle.log_specs.specs.LogSessions.{are_columns}
use Rattle.log_table.specs.Tables.{name_at}
use Rattle.log_table.proofs.columns.columns_of.Given as goal

abbrev pub invariant-loop-i : goal.invariant-loop-i
invariant-loop-i l = record {
  rest : are_columns l.variables l.names ≡ are_columns l.variables (drop l.i l.names);
  same : map (name_at l.variables) l.columns.items ≡ take l.i l.names;
  within : All (λ c. c < length l.variables) l.columns.items;
}
