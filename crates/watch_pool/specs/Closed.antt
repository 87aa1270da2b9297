-- What a shared memo and its receipts came to.
use Rattle.std.specs.Prelude.{◌≡◌, ◌≢◌, List, sum_by}
use Rattle.watch_pool.specs.declared.kept.Kept.{Kept}
use Rattle.watch_pool.specs.declared.receipts.Receipt.{Receipt}
use Rattle.watch_pool.specs.declared.shared.Closed.{Closed}
use Rattle.watch_pool.specs.declared.shared.Closed.TheVariants.{Full, Short}

module _ {H F : Type 0} where
  -- all shares came back, and the memo's counts are the sums of those of the receipts
  pub record IsFull (receipts : List (Receipt H F)) (kept : Kept H F) : Type 0 where
    pub all : kept.given ≡ sum_by (λ r. r.counts.looks) receipts
    pub looks : kept.memo.totals.looks ≡ sum_by (λ r. r.counts.looks) receipts
    pub hits : kept.memo.totals.hits ≡ sum_by (λ r. r.counts.hits) receipts
    pub fills : kept.memo.totals.puts ≡ sum_by (λ r. r.counts.fills) receipts

  -- a share is missing, and all is handed back
  pub record IsShort (receipts back : List (Receipt H F)) (kept : Kept H F) : Type 0 where
    pub missing : kept.given ≢ sum_by (λ r. r.counts.looks) receipts
    pub back_is : back ≡ receipts

  abbrev pub IsClosed : List (Receipt H F) → Closed H F → Type 0
  IsClosed receipts (Full kept) = IsFull receipts kept
  IsClosed receipts (Short kept back) = IsShort receipts back.items kept
