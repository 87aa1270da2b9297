use Rattle.std.proofs.Common.{◌≡◌, ◌∙◌, refl}
use Rattle.std.specs.Arc.{arc_value}
use Rattle.succ_memo.specs.Stored.{bound_of}
use Rattle.succ_memo.proofs.ShownPairs.{put_entries-shown}
use Rattle.succ_memo.proofs.storage.put_first.Goals as goal

pub returns-in-Ok-put-clause-ok : goal.returns-in-Ok-put-clause-ok
returns-in-Ok-put-clause-ok g c =
    let k : c.in-Ok.key ≡ (arc_value c.args.entry).0 = c.in-Ok.ensures ∙ rw (c.key.ensures.value, c.deref.ensures) refl in
    rw (c.in-Ok-put.ensures.entries, k) (put_entries-shown g.R.Key.PartialEq.eq (bound_of c.args.most) c.args.cache.now c.args.entry c.requires.absent c.requires.stored.room c.requires.stored.fits)
