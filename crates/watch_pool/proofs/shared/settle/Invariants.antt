use Rattle.std.proofs.Common.{◌≡◌, ◌+◌, sum_by}
use Rattle.watch_pool.proofs.shared.settle.Given as goal

abbrev pub invariant-loop-receipt : goal.invariant-loop-receipt
invariant-loop-receipt g l =
    (l.hits.parts ≡ sum_by (λ r. r.counts.looks) l.yielded)
    × (l.fills.parts ≡ sum_by (λ r. r.counts.looks) l.yielded)
    × (l.hits.amount ≡ sum_by (λ r. r.counts.hits) l.yielded)
    × (l.fills.amount ≡ sum_by (λ r. r.counts.fills) l.yielded)
    × (l.hits.amount + l.fills.amount ≡ l.hits.parts)
