use Rattle.std.proofs.Common.{◌≡◌, map}
use Rattle.std.specs.Vec.{vec_capacity}
use Rattle.interleave_core.specs.Seats.{at_rest}
use Rattle.interleave_core.proofs.world.ended.Given as goal

abbrev pub invariant-loop-seat : goal.invariant-loop-seat
invariant-loop-seat l = record {
  items : l.room.items ≡ map at_rest l.yielded;
  room : vec_capacity l.room ≡ vec_capacity l.initial.room;
}
