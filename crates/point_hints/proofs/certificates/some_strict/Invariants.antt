use Rattle.std.proofs.Common.{◌≡◌, drop}
use Rattle.point_hints.specs.Summing.{some_strict}
use Rattle.point_hints.proofs.certificates.some_strict.Given as goal

abbrev pub invariant-loop-at : goal.invariant-loop-at
invariant-loop-at l = some_strict l.factors l.rows ≡ some_strict (drop l.at l.factors) (drop l.at l.rows)
