use Rattle.std.proofs.Common.{◌≡◌, ◌<◌, ℕ, pos}
use Rattle.point_hints.specs.Summing.{column_sum}
use Rattle.point_hints.proofs.certificates.none_left.Given as goal

abbrev pub invariant-loop-column : goal.invariant-loop-column
invariant-loop-column l = (x : ℕ) → x < l.column → column_sum x l.factors l.rows ≡ pos 0
