use Rattle.std.proofs.Common.{◌≡◌, [], Some, length, arith, refl, ap, subst}
use Rattle.std.specs.Prelude.{slice_get, slice_set}
use Rattle.std.proofs.lemmas.Option.{slice_get_read}
use Rattle.std.specs.Arc.{arc_value}
use Rattle.std.specs.Vec.{vec_len, vec_capacity}
use Rattle.run_specs.specs.Worlds.{Changes, Put}
use Rattle.live_session.specs.Entries.{entry_of}
use Rattle.interleave_core.specs.Views.{counted_world, tickets_at}
use Rattle.interleave_core.specs.Played.{IsTaken}
use Rattle.interleave_core.proofs.StepLemmas.{some_ticket, put_steps}
use Rattle.interleave_core.proofs.world.World.put.Goals as goal

pub invariant_of-self-2 : goal.invariant_of-self-2
invariant_of-self-2 c =
    let ss = c.self.inside.seats.items in
    let i = c.args.session in
    let s = c.in-Some.seat.now in
    let t = c.give_made.new.self in
    let was : slice_get ss i ≡ Some s = slice_get_read ss (length ss) i s refl c.in-Some.ensures.item.3.0 c.in-Some.ensures.item.1 in
    let changes : Changes i ss s t (slice_set ss i t) = record { was = was; becomes = refl } in
    let made = c.in-Some-made.ensures.made in
    let entry = entry_of (arc_value c.in-Some-made.made.now) in
    let done = put_steps c.self.inside.memo ss (slice_set ss i t) (vec_len c.self.inside.tickets) c.self.inside.room.items (vec_capacity c.self.inside.room) c.self.invariant i s t changes c.put_into.new.memo (vec_len c.put_into.new.tickets) made.0 entry c.in_ok-put_into.ensures.put c.put_into.ensures.unbounded c.in_ok-put_into.ensures.counts c.in_ok-put_into.ensures.tickets made.1 (c.give_made.ensures made.0 entry made.1) in
    done.kept

pub returns-clause-ok : goal.returns-clause-ok
returns-clause-ok c =
    let ss = c.self.inside.seats.items in
    let i = c.args.session in
    let s = c.in-Some.seat.now in
    let t = c.give_made.new.self in
    let was : slice_get ss i ≡ Some s = slice_get_read ss (length ss) i s refl c.in-Some.ensures.item.3.0 c.in-Some.ensures.item.1 in
    let changes : Changes i ss s t (slice_set ss i t) = record { was = was; becomes = refl } in
    let made = c.in-Some-made.ensures.made in
    let entry = entry_of (arc_value c.in-Some-made.made.now) in
    let done = put_steps c.self.inside.memo ss (slice_set ss i t) (vec_len c.self.inside.tickets) c.self.inside.room.items (vec_capacity c.self.inside.room) c.self.invariant i s t changes c.put_into.new.memo (vec_len c.put_into.new.tickets) made.0 entry c.in_ok-put_into.ensures.put c.put_into.ensures.unbounded c.in_ok-put_into.ensures.counts c.in_ok-put_into.ensures.tickets made.1 (c.give_made.ensures made.0 entry made.1) in
    subst (λ w. IsTaken w (counted_world c.put_into.new.memo (slice_set ss i t)) (Put i) []) c.self.view_is done.taken

pub put_into-requires-clause-some_ticket : goal.put_into-requires-clause-some_ticket
put_into-requires-clause-some_ticket c =
    let ss = c.self.inside.seats.items in
    let s = c.in-Some.seat.now in
    let was : slice_get ss c.args.session ≡ Some s = slice_get_read ss (length ss) c.args.session s refl c.in-Some.ensures.item.3.0 c.in-Some.ensures.item.1 in
    let held : tickets_at s.phase ≡ 1 = ap tickets_at c.in-Some-made.ensures.made.1 in
    omega (arith, some_ticket ss c.args.session s was, held, c.self.invariant.tickets_are)
