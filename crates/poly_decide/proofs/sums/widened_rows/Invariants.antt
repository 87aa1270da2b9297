use Rattle.std.proofs.Common.{◌≡◌, ◌≤◌, ◌∷◌, map, take, length, pos}
use Rattle.std.specs.Vec.{vec_capacity}
use Rattle.poly_specs.specs.Rows.{with_coef}
use Rattle.poly_decide.proofs.sums.widened_rows.Given as goal

abbrev pub invariant-loop-row : goal.invariant-loop-row
invariant-loop-row l = (l.wider.items ≡ map (λ r. with_coef (pos 0 ∷ r.coef) r) (take l.row-index l.rows)) × (length l.rows ≤ vec_capacity l.wider)
