use Rattle.std.proofs.Common.{◌≡◌, take, map, vec_len}
use Rattle.watch_pool.proofs.slots.reply_counts.Given as goal

abbrev pub invariant-loop-slot : goal.invariant-loop-slot
invariant-loop-slot g l = l.counts.items ≡ map (λ s. vec_len s.replies) (take l.slot-index l.slots)
