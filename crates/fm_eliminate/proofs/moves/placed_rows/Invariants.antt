use Rattle.std.proofs.Common.{◌≡◌, ◌≤◌, ◌+◌, length, map, take}
use Rattle.std.specs.Vec.{vec_len, vec_capacity}
use Rattle.poly_specs.specs.Columns.{placed}
use Rattle.fm_eliminate.proofs.moves.placed_rows.Given as goal

abbrev pub invariant-loop-row : goal.invariant-loop-row
invariant-loop-row l = record {
  items : l.moved.items ≡ map (placed l.to l.width) (take l.row-index l.rows);
  room : vec_len l.moved + length l.rows ≤ vec_capacity l.moved + l.row-index;
}
