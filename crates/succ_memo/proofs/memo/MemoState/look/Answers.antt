use Rattle.succ_memo.proofs.StoredMemo.{stored_memo}
use Rattle.succ_memo.proofs.memo.MemoState.look.Goals as goal

pub returns-in_err-shared-clause-was_valid : goal.returns-in_err-shared-clause-was_valid
returns-in_err-shared-clause-was_valid g c =
    rw (← c.self.view_is) (stored_memo g.R.Key.PartialEq.eq g.R.Relation.holds c.self.inside.most c.self.inside.totals c.self.inside.cache c.self.invariant)

pub returns-in_err-shared-clause-valid : goal.returns-in_err-shared-clause-valid
returns-in_err-shared-clause-valid g c =
    stored_memo g.R.Key.PartialEq.eq g.R.Relation.holds c.self.inside.most _ c.find.new.cache c.find.ensures.stored

pub returns-in_default-clause-was_valid : goal.returns-in_default-clause-was_valid
returns-in_default-clause-was_valid g c =
    rw (← c.self.view_is) (stored_memo g.R.Key.PartialEq.eq g.R.Relation.holds c.self.inside.most c.self.inside.totals c.self.inside.cache c.self.invariant)

pub returns-in_default-clause-valid : goal.returns-in_default-clause-valid
returns-in_default-clause-valid g c =
    stored_memo g.R.Key.PartialEq.eq g.R.Relation.holds c.self.inside.most _ c.find.new.cache c.find.ensures.stored

pub returns-clause-was_valid : goal.returns-clause-was_valid
returns-clause-was_valid g c =
    rw (← c.self.view_is) (stored_memo g.R.Key.PartialEq.eq g.R.Relation.holds c.self.inside.most c.self.inside.totals c.self.inside.cache c.self.invariant)

pub returns-clause-valid : goal.returns-clause-valid
returns-clause-valid g c =
    stored_memo g.R.Key.PartialEq.eq g.R.Relation.holds c.self.inside.most _ c.find.new.cache c.find.ensures.stored
