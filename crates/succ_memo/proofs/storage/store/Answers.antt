use Rattle.std.proofs.Common.{◌≡◌, ◌∙◌, true, refl, sym, is_some, None}
use Rattle.std.specs.Arc.{arc_value}
use Rattle.std.specs.Map.{lookup, lookup_entry}
use Rattle.succ_memo.specs.Stored.{shown_pairs}
use Rattle.succ_memo.proofs.ShownPairs.{put-present, put-absent, entry-absent}
use Rattle.succ_memo.proofs.storage.store.Goals as goal

pub returns-then-contains-clause-ok : goal.returns-then-contains-clause-ok
returns-then-contains-clause-ok g c =
    let eq = g.R.Key.PartialEq.eq in
    let k : c.key.result.now ≡ (arc_value c.args.entry).0 = rw (c.key.ensures.value, c.deref.ensures) refl in
    let t : is_some (lookup (eq (arc_value c.args.entry).0) c.in-Some.cache.entries) ≡ true = rw (← k) (sym c.contains.ensures ∙ c.if-contains.true) in
    rw c.in-Some.is (sym (put-present (eq (arc_value c.args.entry).0) c.in-Some.cache.entries (shown_pairs c.in-Some.cache.entries) _ t))

pub put_first-requires-clause-absent : goal.put_first-requires-clause-absent
put_first-requires-clause-absent g c =
    let eq = g.R.Key.PartialEq.eq in
    let k : c.key.result.now ≡ (arc_value c.args.entry).0 = rw (c.key.ensures.value, c.deref.ensures) refl in
    entry-absent (eq (arc_value c.args.entry).0) c.in-Some.cache.entries (rw (← k) (sym c.contains.ensures ∙ c.if-contains.false))

pub returns-else-contains-clause-ok : goal.returns-else-contains-clause-ok
returns-else-contains-clause-ok g c =
    let eq = g.R.Key.PartialEq.eq in
    let k : c.key.result.now ≡ (arc_value c.args.entry).0 = rw (c.key.ensures.value, c.deref.ensures) refl in
    let absent : lookup_entry (eq (arc_value c.args.entry).0) c.in-Some.cache.entries ≡ None = entry-absent (eq (arc_value c.args.entry).0) c.in-Some.cache.entries (rw (← k) (sym c.contains.ensures ∙ c.if-contains.false)) in
    rw (c.in-Some.is, put-absent (eq (arc_value c.args.entry).0) c.in-Some.cache.entries (shown_pairs c.in-Some.cache.entries) _ absent) c.put_first.ensures.ok
