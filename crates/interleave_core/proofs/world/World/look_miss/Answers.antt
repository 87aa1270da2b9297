use Rattle.std.proofs.Common.{◌≡◌, ◌+◌, [], Some, length, refl, ap, ◌∙◌, subst}
use Rattle.std.specs.Prelude.{slice_get, slice_set}
use Rattle.std.proofs.lemmas.Option.{slice_get_read}
use Rattle.std.specs.Vec.{vec_len, vec_capacity}
use Rattle.run_specs.specs.Sessions.{key_for}
use Rattle.run_specs.specs.Worlds.{Changes, LookMiss, HasKey}
use Rattle.interleave_core.specs.Views.{shown, counted_world}
use Rattle.interleave_core.specs.Played.{IsTaken}
use Rattle.interleave_core.proofs.StepLemmas.{miss_steps}
use Rattle.interleave_core.proofs.world.World.look_miss.Goals as goal

pub invariant_of-self-2 : goal.invariant_of-self-2
invariant_of-self-2 c =
    let ss = c.self.inside.seats.items in
    let i = c.args.session in
    let s = c.in-Some.seat.now in
    let t = c.miss.new.self in
    let was : slice_get ss i ≡ Some s = slice_get_read ss (length ss) i s refl c.in-Some.ensures.item.3.0 c.in-Some.ensures.item.1 in
    let changes : Changes i ss s t (slice_set ss i t) = record { was = was; becomes = refl } in
    let missed = c.miss.ensures in
    let more : vec_len c.push_reserved.new.self ≡ vec_len c.self.inside.tickets + 1 = c.push_reserved.ensures.len ∙ ap (λ n. n + 1) c.reserve.ensures.len in
    let keys : Some c.in-Some-want.key.now ≡ Some (key_for s missed.0) = c.in-Some-want.ensures ∙ missed.2 in
    let key : c.in-Some-want.key.now ≡ key_for s missed.0 = cc in
    let lacking : HasKey (key_for s missed.0) (shown c.self.inside.memo) → ⊥ = subst (λ k. HasKey k (shown c.self.inside.memo) → ⊥) key c.in_ok-ticket.ensures.lacking in
    let done = miss_steps c.self.inside.memo ss (slice_set ss i t) (vec_len c.self.inside.tickets) c.self.inside.room.items (vec_capacity c.self.inside.room) c.self.invariant i s t changes c.missed.new.memo (vec_len c.push_reserved.new.self) missed.0 more c.in_ok-ticket.ensures.memo c.in_ok-ticket.ensures.counts missed.1 missed.2 lacking missed.3 in
    done.kept

pub returns-clause-ok : goal.returns-clause-ok
returns-clause-ok c =
    let ss = c.self.inside.seats.items in
    let i = c.args.session in
    let s = c.in-Some.seat.now in
    let t = c.miss.new.self in
    let was : slice_get ss i ≡ Some s = slice_get_read ss (length ss) i s refl c.in-Some.ensures.item.3.0 c.in-Some.ensures.item.1 in
    let changes : Changes i ss s t (slice_set ss i t) = record { was = was; becomes = refl } in
    let missed = c.miss.ensures in
    let more : vec_len c.push_reserved.new.self ≡ vec_len c.self.inside.tickets + 1 = c.push_reserved.ensures.len ∙ ap (λ n. n + 1) c.reserve.ensures.len in
    let keys : Some c.in-Some-want.key.now ≡ Some (key_for s missed.0) = c.in-Some-want.ensures ∙ missed.2 in
    let key : c.in-Some-want.key.now ≡ key_for s missed.0 = cc in
    let lacking : HasKey (key_for s missed.0) (shown c.self.inside.memo) → ⊥ = subst (λ k. HasKey k (shown c.self.inside.memo) → ⊥) key c.in_ok-ticket.ensures.lacking in
    let done = miss_steps c.self.inside.memo ss (slice_set ss i t) (vec_len c.self.inside.tickets) c.self.inside.room.items (vec_capacity c.self.inside.room) c.self.invariant i s t changes c.missed.new.memo (vec_len c.push_reserved.new.self) missed.0 more c.in_ok-ticket.ensures.memo c.in_ok-ticket.ensures.counts missed.1 missed.2 lacking missed.3 in
    subst (λ w. IsTaken w (counted_world c.missed.new.memo (slice_set ss i t)) (LookMiss i) []) c.self.view_is done.taken
