use Rattle.std.proofs.Common.{◌≡◌, map, take}
use Rattle.poly_specs.specs.Lists.{dot}
use Rattle.point_hints.proofs.certificates.constant_sum.Given as goal

abbrev pub invariant-loop-at : goal.invariant-loop-at
invariant-loop-at l = l.sum ≡ dot (take l.at l.factors) (take l.at (map (λ r. r.cst) l.rows))
