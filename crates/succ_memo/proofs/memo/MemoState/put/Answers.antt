use Rattle.succ_memo.proofs.StoredMemo.{stored_memo}
use Rattle.succ_memo.proofs.memo.MemoState.put.Goals as goal

pub returns-in-Err-clause-valid : goal.returns-in-Err-clause-valid
returns-in-Err-clause-valid g c =
    stored_memo g.R.Key.PartialEq.eq g.R.Relation.holds c.self.inside.most _ c.store.new.cache c.store.ensures.stored

pub returns-clause-valid : goal.returns-clause-valid
returns-clause-valid g c =
    stored_memo g.R.Key.PartialEq.eq g.R.Relation.holds c.self.inside.most _ c.store.new.cache c.store.ensures.stored
