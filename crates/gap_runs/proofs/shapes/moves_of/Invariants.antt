use Rattle.std.proofs.Common.{◌≡◌, ◌++◌, drop}
use Rattle.gap_runs.specs.Shapes as shapes
use Rattle.gap_runs.proofs.shapes.moves_of.Given as goal

abbrev pub invariant-loop-i : goal.invariant-loop-i
invariant-loop-i l = l.moves.items ++ shapes.moves_of l.fn.m (drop l.i l.fn.path) l.fn.nums ≡ shapes.moves_of l.fn.m l.fn.path l.fn.nums
