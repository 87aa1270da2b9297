use Rattle.std.proofs.Common.{◌≡◌, ◌<ℤ◌, pos, take}
use Rattle.poly_specs.specs.Bits.{FitsBits}
use Rattle.poly_specs.specs.Denominators.{common_den}
use Rattle.gap_runs.proofs.commons.den_of.Given as goal

abbrev pub invariant-loop-x : goal.invariant-loop-x
invariant-loop-x l = (l.den ≡ pos (common_den (take l.x-index l.numbers))) × (pos 0 <ℤ l.den) × FitsBits l.den
