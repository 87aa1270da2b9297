use Rattle.std.proofs.Common.{◌≡◌, [], Some, length, refl, subst}
use Rattle.std.specs.Prelude.{slice_get, slice_set}
use Rattle.std.proofs.lemmas.Option.{slice_get_read}
use Rattle.std.specs.Vec.{vec_len, vec_capacity}
use Rattle.run_specs.specs.Worlds.{Changes, Fill}
use Rattle.interleave_core.specs.Views.{counted_world}
use Rattle.interleave_core.specs.Played.{IsTaken}
use Rattle.interleave_core.proofs.StepLemmas.{fill_steps}
use Rattle.interleave_core.proofs.world.World.fill.Goals as goal

pub invariant_of-self-2 : goal.invariant_of-self-2
invariant_of-self-2 c =
    let ss = c.self.inside.seats.items in
    let i = c.args.session in
    let s = c.in-Some.seat.now in
    let t = c.fill.new.self in
    let was : slice_get ss i ≡ Some s = slice_get_read ss (length ss) i s refl c.in-Some.ensures.item.3.0 c.in-Some.ensures.item.1 in
    let changes : Changes i ss s t (slice_set ss i t) = record { was = was; becomes = refl } in
    let done = fill_steps c.self.inside.memo ss (slice_set ss i t) (vec_len c.self.inside.tickets) c.self.inside.room.items (vec_capacity c.self.inside.room) c.self.invariant i s t changes c.in_ok-fill.ensures.ok.0 c.in_ok-fill.ensures.ok.1 c.in_ok-fill.ensures.ok.2 in
    done.kept

pub returns-clause-ok : goal.returns-clause-ok
returns-clause-ok c =
    let ss = c.self.inside.seats.items in
    let i = c.args.session in
    let s = c.in-Some.seat.now in
    let t = c.fill.new.self in
    let was : slice_get ss i ≡ Some s = slice_get_read ss (length ss) i s refl c.in-Some.ensures.item.3.0 c.in-Some.ensures.item.1 in
    let changes : Changes i ss s t (slice_set ss i t) = record { was = was; becomes = refl } in
    let done = fill_steps c.self.inside.memo ss (slice_set ss i t) (vec_len c.self.inside.tickets) c.self.inside.room.items (vec_capacity c.self.inside.room) c.self.invariant i s t changes c.in_ok-fill.ensures.ok.0 c.in_ok-fill.ensures.ok.1 c.in_ok-fill.ensures.ok.2 in
    subst (λ w. IsTaken w (counted_world c.self.inside.memo (slice_set ss i t)) (Fill i) []) c.self.view_is done.taken
