use Rattle.std.proofs.Common.{◌≡◌, ◌+◌, ◌≤◌, length}
use Rattle.std.specs.List.{list_all}
use Rattle.replay_specs.specs.RunTextFaults.{is_integer, fields_of}
use Rattle.run_text.proofs.lines.count_integers.Given as goal

abbrev pub invariant-loop-halves : goal.invariant-loop-halves
invariant-loop-halves l = record {
  same : list_all is_integer (fields_of l.fn.bytes) ≡ list_all is_integer (fields_of l.rest);
  counted : length (fields_of l.fn.bytes) + 1 ≡ l.count + length (fields_of l.rest);
  small : l.count + length l.rest ≤ length l.fn.bytes + 1;
}

abbrev pub decreases-loop-halves : goal.decreases-loop-halves
decreases-loop-halves l = length l.rest
