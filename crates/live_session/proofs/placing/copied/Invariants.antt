use Rattle.std.proofs.Common.{◌≡◌, ◌≤◌, ◌+◌, length, take}
use Rattle.std.specs.Vec.{vec_len, vec_capacity}
use Rattle.live_session.proofs.placing.copied.Given as goal

abbrev pub invariant-loop-cell : goal.invariant-loop-cell
invariant-loop-cell l = record {
  items : l.copies.items ≡ take l.cell-index l.cells;
  room : vec_len l.copies + length l.cells ≤ vec_capacity l.copies + l.cell-index;
}
