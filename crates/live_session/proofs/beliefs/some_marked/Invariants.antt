use Rattle.std.proofs.Common.{◌≡◌, drop}
use Rattle.run_specs.specs.SessionHistories.{some_marked}
use Rattle.gap_keys.specs.Views.{items_of}
use Rattle.live_session.proofs.beliefs.some_marked.Given as goal

abbrev pub invariant-loop-item : goal.invariant-loop-item
invariant-loop-item l = some_marked (items_of l.items) ≡ some_marked (items_of (drop l.item-index l.items))
