use Rattle.std.specs.Arc.{arc_value}
use Rattle.interleave_core.proofs.MemoLemmas.{put_by}
use Rattle.interleave_core.proofs.lookups.put_into.Goals as goal

pub returns-in-Ok-clause-put : goal.returns-in-Ok-clause-put
returns-in-Ok-clause-put c =
    put_by _ c.equal_keys.ensures c.args.memo.now c.put.new.self _ (arc_value c.args.made.now) c.in-Ok.ensures.ok c.requires.unbounded c.in_ok-entry.ensures c.in-Ok.ensures.valid.distinct
