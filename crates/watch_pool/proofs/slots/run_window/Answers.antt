use Rattle.std.proofs.Common.{◌≡◌, length, slice_index_or, get_or, vec_len}
use Rattle.std.proofs.lemmas.List.{get_or-map}
use Rattle.std.proofs.lemmas.List.Elements.{All-get_or}
use Rattle.watch_pool.specs.Slots.{IsReady}
use Rattle.watch_pool.proofs.SlotLemmas.{none_driven, all_when_counted}
use Rattle.watch_pool.proofs.slots.run_window.Goals as goal

pub returns-in_err-starts-clause-prefix : goal.returns-in_err-starts-clause-prefix
returns-in_err-starts-clause-prefix g c = λ i d h.
    (0, none_driven (slice_index_or c.args.slots.now i d) (All-get_or IsReady c.args.slots.now i d h c.requires.ready))

pub returns-then-all_replied-clause-all : goal.returns-then-all_replied-clause-all
returns-then-all_replied-clause-all g c = λ i d h.
    let old = get_or c.args.slots.now i d in
    let new = get_or c.side_by_side.new.slots i d in
    let from : get_or c.as_slice.result.now i 0 ≡ vec_len old.replies = rw (c.as_slice.ensures.value, c.in_ok-starts.ensures) (get_or-map (λ s. vec_len s.replies) c.args.slots.now i d 0 h) in
    let len : length c.side_by_side.new.slots ≡ length c.args.slots.now = c.side_by_side.auto.slots in
    all_when_counted old new (get_or c.as_slice.result.now i 0) (c.side_by_side.ensures i d h) from (c.all_replied.ensures c.if-all_replied.true i d (rw len h))
