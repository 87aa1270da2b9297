use Rattle.std.proofs.Common.{◌≡◌, ◌<◌, length, vec_len}
use Rattle.watch_pool.proofs.SlotLemmas.{at_first, next_ready, one_up}
use Rattle.watch_pool.proofs.slots.Slot.drive_pending.Goals as goal

pub loop-i-init : goal.loop-i-init
loop-i-init g c = at_first c.args.self.now c.requires

pub drive_at-requires-clause-ready : goal.drive_at-requires-clause-ready
drive_at-requires-clause-ready g c =
    let old = c.args.self.now in
    let len : vec_len old.pending ≡ length old.pending.items = old.pending.ok.0 in
    let within : c.loop-i.i < length old.pending.items = rw (← len, ← c.len-i-end.ensures) c.loop-i-test.true in
    next_ready old c.loop-i.self c.loop-i.i c.loop-i.invariant c.requires within

pub loop-i-preserved : goal.loop-i-preserved
loop-i-preserved g c = one_up c.args.self.now c.loop-i.self c.loop-i.i c.loop-i.invariant c.drive_at.new.self c.in_default.ensures.ok
