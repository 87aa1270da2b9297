use Rattle.std.proofs.Common.{◌≡◌, ◌≤◌, ◌+◌, length, take, map}
use Rattle.std.specs.Vec.{vec_len, vec_capacity}
use Rattle.gap_keys.specs.Views.{state_view}
use Rattle.live_session.proofs.beliefs.item_states.Given as goal

abbrev pub invariant-loop-item : goal.invariant-loop-item
invariant-loop-item l = record {
  items : l.copies.items ≡ map state_view (take l.item-index l.items);
  room : vec_len l.copies + length l.items ≤ vec_capacity l.copies + l.item-index;
}
