use Rattle.std.proofs.Common.{◌≡◌, ℕ, ◌<◌, ◌+◌, vec_len, get_or}
use Rattle.watch_pool.proofs.slots.all_replied.Given as goal

abbrev pub invariant-loop-i : goal.invariant-loop-i
invariant-loop-i g l = (k : ℕ) (d : _) → k < l.i → vec_len (get_or l.slots k d).replies ≡ get_or l.starts k 0 + vec_len (get_or l.slots k d).pending
