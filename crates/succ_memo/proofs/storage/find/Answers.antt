use Rattle.succ_memo.proofs.ShownPairs.{moved-shown}
use Rattle.succ_memo.proofs.storage.find.Goals as goal

pub returns-in-Some-clause-moved : goal.returns-in-Some-clause-moved
returns-in-Some-clause-moved g c =
    rw c.in-Some.is (moved-shown (g.R.Key.PartialEq.eq c.args.key.now) c.find_in.result c.in-Some.cache c.find_in.new.cache c.find_in.ensures.moved)
