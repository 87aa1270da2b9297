use Rattle.std.proofs.Common.{ℕ, ◌<◌}
use Rattle.gap_keys.specs.Views.{items_of}
use Rattle.alarm_run.specs.Marks.{IsMarkedAt}
use Rattle.alarm_run.proofs.entries.first_marked.Given as goal

abbrev pub invariant-loop-number : goal.invariant-loop-number
invariant-loop-number l = (j : ℕ) → j < l.number → IsMarkedAt (items_of l.items) j → ⊥
