use Rattle.std.proofs.Common.{◌≡◌, ◌+◌, ◌≤◌, map, drop}
use Rattle.lang_rows.specs.RowMachine.{rows_of}
use Rattle.lang_rows.specs.Views.{row_of}
use Rattle.lang_rows.proofs.rows.has_room.Given as goal

abbrev pub invariant-loop-row : goal.invariant-loop-row
invariant-loop-row l = record { few : l.count ≤ 12; so_far : l.count + rows_of (map row_of (drop l.row-index l.rows)) ≡ rows_of (map row_of l.rows) + l.more }
