use Rattle.std.proofs.Common.{take}
use Rattle.std.specs.Prelude.{All}
use Rattle.poly_specs.specs.Bounds.{Entails}
use Rattle.poly_decide.proofs.inclusion.includes.Given as goal

abbrev pub invariant-loop-row : goal.invariant-loop-row
invariant-loop-row l = All (λ r. Entails l.small.width l.small.rows r) (take l.row-index l.row-items)
