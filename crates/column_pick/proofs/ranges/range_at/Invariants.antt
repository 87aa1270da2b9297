use Rattle.std.proofs.Common.{take}
use Rattle.column_pick.specs.Ranges.{IsRangeOf}
use Rattle.column_pick.proofs.ranges.range_at.Given as goal

abbrev pub invariant-loop-row : goal.invariant-loop-row
invariant-loop-row l = IsRangeOf l.fn.x l.fn.point (take l.row-index l.rows) l.range
