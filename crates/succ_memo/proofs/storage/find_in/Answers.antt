use Rattle.std.proofs.Common.{◌≡◌, None, Some, sym, refl}
use Rattle.std.specs.Map.{lookup}
use Rattle.succ_memo.proofs.CacheEntries.{promoted-absent}
use Rattle.succ_memo.proofs.ShownPairs.{arc_value-lookup, entry-absent}
use Rattle.succ_memo.proofs.StoredMemo.{promoted_stored}
use Rattle.succ_memo.proofs.storage.find_in.Goals as goal

pub returns-in_default-clause-found : goal.returns-in_default-clause-found
returns-in_default-clause-found g c =
    let test = g.R.Key.PartialEq.eq c.args.key.now in
    let none : lookup test c.args.cache.now.entries ≡ None = sym (rw c.in_default.is at c.peek.ensures) in
    rw none at (arc_value-lookup test c.args.cache.now.entries c.requires.keys)

pub returns-in_default-clause-moved : goal.returns-in_default-clause-moved
returns-in_default-clause-moved g c =
    let test = g.R.Key.PartialEq.eq c.args.key.now in
    let es = c.args.cache.now.entries in
    let none : lookup test es ≡ None = sym (rw c.in_default.is at c.peek.ensures) in
    rw (promoted-absent test es (entry-absent test es (rw none refl))) refl

pub returns-clause-found : goal.returns-clause-found
returns-clause-found g c =
    let test = g.R.Key.PartialEq.eq c.args.key.now in
    let some : lookup test c.args.cache.now.entries ≡ Some c.in-Some.entry.now = sym (rw c.in-Some.is at c.peek.ensures) in
    rw c.in_ok-shared.ensures (rw some at (arc_value-lookup test c.args.cache.now.entries c.requires.keys))

pub returns-clause-stored : goal.returns-clause-stored
returns-clause-stored g c =
    promoted_stored g.R.Key.PartialEq.eq g.R.Relation.holds c.args.most (g.R.Key.PartialEq.eq c.args.key.now) c.args.cache.now c.promote.new.self c.promote.ensures.entries c.len.ensures.valid (rw (← c.len.ensures.len) c.len.ensures.fits) c.requires
