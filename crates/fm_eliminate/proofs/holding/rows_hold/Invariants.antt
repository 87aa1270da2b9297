use Rattle.std.proofs.Common.{Bool, Option, drop}
use Rattle.poly_specs.specs.Systems.{IsHeld}
use Rattle.fm_eliminate.proofs.holding.rows_hold.Given as goal

abbrev pub invariant-loop-row : goal.invariant-loop-row
invariant-loop-row l = (answer : Option Bool) → IsHeld (drop l.row-index l.rows) l.at answer → IsHeld l.rows l.at answer
