use Rattle.std.proofs.Common.{take}
use Rattle.poly_decide.specs.Pruned.{IsThinned}
use Rattle.poly_decide.proofs.pruning.without_late.Given as goal

abbrev pub invariant-loop-row : goal.invariant-loop-row
invariant-loop-row l = IsThinned l.width (take l.row-index l.rows) l.left.items
