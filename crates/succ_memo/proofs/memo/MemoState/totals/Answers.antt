use Rattle.succ_memo.proofs.StoredMemo.{stored_memo}
use Rattle.succ_memo.proofs.memo.MemoState.totals.Goals as goal

pub returns-clause-valid : goal.returns-clause-valid
returns-clause-valid g c =
    rw (← c.self.view_is) (stored_memo g.R.Key.PartialEq.eq g.R.Relation.holds c.self.inside.most c.self.inside.totals c.self.inside.cache c.self.invariant)
