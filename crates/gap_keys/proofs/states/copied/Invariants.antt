use Rattle.std.proofs.Common.{◌≡◌, ◌≤◌, ◌+◌, length, take}
use Rattle.std.specs.Vec.{vec_len, vec_capacity}
use Rattle.gap_keys.proofs.states.copied.Given as goal

abbrev pub invariant-loop-state : goal.invariant-loop-state
invariant-loop-state l = record {
  items : l.copies.items ≡ take l.state-index l.states;
  room : vec_len l.copies + length l.states ≤ vec_capacity l.copies + l.state-index;
}
