use Rattle.std.proofs.Common.{◌≡◌, None, refl, subst}
use Rattle.run_specs.specs.Logs.{Sample}
use Rattle.run_specs.specs.Sessions.{wanted_for}
use Rattle.live_session.specs.Driven.{IsDriven}
use Rattle.watch_pool.specs.Counted.{looks_for}
use Rattle.watch_pool.proofs.SlotLemmas.{is_sample, has_numbers, may_begin, never_refused}
use Rattle.watch_pool.proofs.slots.Slot.drive_at.Goals as goal

pub drive-requires-clause-time : goal.drive-requires-clause-time
drive-requires-clause-time g c = (has_numbers c.args.self.now c.args.i c.requires.ready c.index.result.now c.index.ensures).0

pub drive-requires-clause-cells : goal.drive-requires-clause-cells
drive-requires-clause-cells g c = (has_numbers c.args.self.now c.args.i c.requires.ready c.index.result.now c.index.ensures).1

pub unreachable-requires : goal.unreachable-requires
unreachable-requires g c =
    never_refused c.args.self.now.session c.index.result.now c.in-Err-Refused.field-0 c.in-Err-Refused.field-0-0 c.in-Err-Refused.field-0-is
    c.in-Err-Refused.ensures.undriven (may_begin c.args.self.now c.args.i c.requires.ready c.index.result.now c.index.ensures)

pub returns-in-Ok-clause-ok : goal.returns-in-Ok-clause-ok
returns-in-Ok-clause-ok g c =
    let same = is_sample c.args.self.now c.args.i c.requires.ready c.index.result.now c.index.ensures in
    record {
      sample = c.requires.ready.sample;
      reply = c.in-Ok.reply;
      receipt = c.in-Ok.receipt;
      here = c.requires.ready.here;
      driven = subst (λ (x : Sample). IsDriven c.args.self.now.session c.drive.new.session x c.in-Ok.reply) same c.in-Ok.ensures.ok;
      looks = subst (λ (x : Sample). c.in-Ok.receipt.counts.looks ≡ looks_for (wanted_for c.args.self.now.session x None)) same c.in-Ok.ensures.looks;
      replies = rw c.reserve.ensures.items at c.push_reserved.ensures.items;
      receipts = rw c.reserve-2.ensures.items at c.push_reserved-in-Ok.ensures.items;
      pending = refl;
    }
