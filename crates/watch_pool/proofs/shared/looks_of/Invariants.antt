use Rattle.std.proofs.Common.{◌≡◌, ◌≤◌, take, sum_by}
use Rattle.watch_pool.proofs.shared.looks_of.Given as goal

abbrev pub invariant-loop-receipt : goal.invariant-loop-receipt
invariant-loop-receipt g l = (l.looks ≡ sum_by (λ r. r.counts.looks) (take l.receipt-index l.receipts)) × (l.looks ≤ l.receipt-index)
