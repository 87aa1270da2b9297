use Rattle.std.proofs.Common.{◌∙◌}
use Rattle.succ_memo.proofs.ShownPairs.{is_some-shown}
use Rattle.succ_memo.proofs.StoredMemo.{stored_memo}
use Rattle.succ_memo.proofs.memo.MemoState.has.Goals as goal

pub returns-in-Some-clause-present : goal.returns-in-Some-clause-present
returns-in-Some-clause-present g c =
    rw (← c.self.view_is, c.in-Some.is) (c.contains.ensures ∙ is_some-shown (g.R.Key.PartialEq.eq c.args.key.now) c.in-Some.cache.entries)

pub returns-in-Some-clause-valid : goal.returns-in-Some-clause-valid
returns-in-Some-clause-valid g c =
    rw (← c.self.view_is) (stored_memo g.R.Key.PartialEq.eq g.R.Relation.holds c.self.inside.most c.self.inside.totals c.self.inside.cache c.self.invariant)

pub returns-in-None-clause-valid : goal.returns-in-None-clause-valid
returns-in-None-clause-valid g c =
    rw (← c.self.view_is) (stored_memo g.R.Key.PartialEq.eq g.R.Relation.holds c.self.inside.most c.self.inside.totals c.self.inside.cache c.self.invariant)
