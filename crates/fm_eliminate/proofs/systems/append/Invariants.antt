use Rattle.std.specs.Prelude.{◌≡◌, ◌+◌, ◌≤◌, ◌++◌, take, length}
use Rattle.std.specs.Vec.{vec_len, vec_capacity}
use Rattle.fm_eliminate.proofs.systems.append.Given as goal

abbrev pub invariant-loop-row : goal.invariant-loop-row
invariant-loop-row l = record {
  items : l.rows.items ≡ l.initial.rows.items ++ take l.row-index l.more;
  room : vec_len l.rows + length l.more ≤ vec_capacity l.rows + l.row-index;
}
