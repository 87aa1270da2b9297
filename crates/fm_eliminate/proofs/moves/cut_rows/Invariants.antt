use Rattle.std.proofs.Common.{◌≡◌, ◌≤◌, ◌+◌, length, map, take}
use Rattle.std.specs.Vec.{vec_len, vec_capacity}
use Rattle.poly_specs.specs.Columns.{cut}
use Rattle.fm_eliminate.proofs.moves.cut_rows.Given as goal

abbrev pub invariant-loop-row : goal.invariant-loop-row
invariant-loop-row l = record {
  items : l.shorter.items ≡ map (cut l.width) (take l.row-index l.rows);
  room : vec_len l.shorter + length l.rows ≤ vec_capacity l.shorter + l.row-index;
}
