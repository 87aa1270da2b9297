use Rattle.std.proofs.Common.{◌+◌, ◌≤◌, ◌++◌, length, map, filter, take}
use Rattle.fm_eliminate.specs.Leaving.{IsLeft, is_needed, replaced}
use Rattle.fm_eliminate.proofs.elimination.add_replaced.Given as goal

abbrev pub invariant-loop-row : goal.invariant-loop-row
invariant-loop-row l = record {
  left : IsLeft (l.initial.kept ++ map (replaced l.x l.lower l.upper) (take l.row-index l.rows)) l.kept;
  few : length l.kept ≤ length l.initial.kept + length (filter is_needed (map (replaced l.x l.lower l.upper) (take l.row-index l.rows)));
}
