use Rattle.watch_pool.proofs.SlotLemmas.{DrivesUpTo}
use Rattle.watch_pool.proofs.slots.Slot.drive_pending.Given as goal

abbrev pub invariant-loop-i : goal.invariant-loop-i
invariant-loop-i g l = DrivesUpTo l.i l.initial.self l.self
