use Rattle.std.proofs.Common.{◌≡◌, ◌≤◌, ◌+◌, ◌++◌, length, take}
use Rattle.std.specs.Vec.{vec_len, vec_capacity}
use Rattle.alarm_report.proofs.lines.put.Given as goal

abbrev pub invariant-loop-byte : goal.invariant-loop-byte
invariant-loop-byte l = record {
  items : l.blocks.items ≡ l.initial.blocks.items ++ take l.byte-index l.bytes;
  room : vec_len l.blocks + length l.bytes ≤ vec_capacity l.blocks + l.byte-index;
  kept : vec_capacity l.blocks ≡ vec_capacity l.initial.blocks;
}
