use Rattle.std.proofs.Common.{◌≡◌, take}
use Rattle.column_pick.specs.Picked.{numbers_of}
use Rattle.gap_runs.proofs.parts.lowest_of.Given as goal

abbrev pub invariant-loop-i : goal.invariant-loop-i
invariant-loop-i l = l.numbers.items ≡ take l.i (numbers_of l.fn.point)
