use Rattle.std.proofs.Common.{ℕ, ◌<◌, get_or}
use Rattle.poly_specs.specs.Rows.{Row}
use Rattle.poly_specs.specs.Systems.{IsEquation}
use Rattle.fm_eliminate.proofs.pivots.find_pivot.Given as goal

abbrev pub invariant-loop-row : goal.invariant-loop-row
invariant-loop-row l = (k : ℕ) (d : Row) → k < l.row-index → IsEquation l.x l.rows (get_or l.rows k d) → ⊥
