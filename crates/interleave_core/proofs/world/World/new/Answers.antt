use Rattle.std.proofs.Common.{arith}
use Rattle.std.specs.Vec.{vec_len, vec_capacity}
use Rattle.interleave_core.proofs.StepLemmas.{kept_new}
use Rattle.interleave_core.proofs.world.World.new.Goals as goal

pub invariant_of-result : goal.invariant_of-result
invariant_of-result c =
    kept_new c.new.result c.args.sessions.items c.in_ok-seats.seats.items (vec_len c.new-2.result) c.in_ok-room.room.items (vec_capacity c.in_ok-room.room) c.new.ensures c.in_ok-seats.ensures.seats
    c.in_ok-seats.ensures.kept c.requires.shown c.new-2.ensures.len c.in_ok-room.ensures.items (omega (arith, c.in_ok-room.ensures.exact, c.len.ensures, c.args.sessions.ok.0))

pub returns-clause-kept : goal.returns-clause-kept
returns-clause-kept c =
    (kept_new c.new.result c.args.sessions.items c.in_ok-seats.seats.items (vec_len c.new-2.result) c.in_ok-room.room.items (vec_capacity c.in_ok-room.room) c.new.ensures c.in_ok-seats.ensures.seats
    c.in_ok-seats.ensures.kept c.requires.shown c.new-2.ensures.len c.in_ok-room.ensures.items (omega (arith, c.in_ok-room.ensures.exact, c.len.ensures, c.args.sessions.ok.0))).world
