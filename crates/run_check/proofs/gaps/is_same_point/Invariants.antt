use Rattle.std.proofs.Common.{ℕ, ◌<◌}
use Rattle.poly_specs.specs.Fractions.{SameFraction}
use Rattle.poly_specs.specs.Rows.{coordinate, over}
use Rattle.run_check.proofs.gaps.is_same_point.Given as goal

abbrev pub invariant-loop-j : goal.invariant-loop-j
invariant-loop-j l = (j : ℕ) → j < l.j → SameFraction (coordinate j (over l.den l.num)) (coordinate j (over l.other_den l.other))
