use Rattle.std.proofs.Common.{take}
use Rattle.poly_decide.specs.Caps.{IsLeastCap}
use Rattle.poly_decide.proofs.caps.least_cap.Given as goal

abbrev pub invariant-loop-row : goal.invariant-loop-row
invariant-loop-row l = IsLeastCap (take l.row-index l.rows) l.least
