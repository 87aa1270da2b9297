use Rattle.std.proofs.Common.{◌≡◌, ◌+◌, ◌≤◌, ◌++◌, length}
use Rattle.replay_reports.specs.PlusSigns.{without_plus_signs}
use Rattle.run_replay.proofs.plus_signs.without_plus_signs.Given as goal

abbrev pub invariant-loop-at : goal.invariant-loop-at
invariant-loop-at l = record {
  plain : l.plain.items ++ without_plus_signs l.rest ≡ without_plus_signs l.text;
  shorter : length l.plain.items + length l.rest ≤ length l.text;
}

abbrev pub decreases-loop-at : goal.decreases-loop-at
decreases-loop-at l = length l.rest
