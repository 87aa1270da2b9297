use Rattle.std.proofs.Common.{◌≡◌, map, take}
use Rattle.poly_specs.specs.Lists.{dot}
use Rattle.poly_specs.specs.Rows.{coef_at}
use Rattle.point_hints.proofs.certificates.column_sum.Given as goal

abbrev pub invariant-loop-at : goal.invariant-loop-at
invariant-loop-at l = l.sum ≡ dot (take l.at l.factors) (take l.at (map (coef_at l.column) l.rows))
