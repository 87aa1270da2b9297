use Rattle.succ_memo.proofs.StoredMemo.{stored_memo}
use Rattle.succ_memo.proofs.memo.MemoState.give_up.Goals as goal

pub returns-clause-valid : goal.returns-clause-valid
returns-clause-valid g c =
    stored_memo g.R.Key.PartialEq.eq g.R.Relation.holds c.self.inside.most _ c.self.inside.cache c.self.invariant
