use Rattle.std.proofs.Common.{◌≡◌, map, take, unsigned_abs}
use Rattle.poly_specs.specs.Bits.{NonePasses}
use Rattle.poly_specs.specs.Denominators.{num_over}
use Rattle.gap_runs.proofs.commons.numerators.Given as goal

abbrev pub invariant-loop-x : goal.invariant-loop-x
invariant-loop-x l =
    (l.nums.items ≡ map (num_over (unsigned_abs l.fn.den)) (take l.x-index l.numbers))
    × NonePasses (map (num_over (unsigned_abs l.fn.den)) (take l.x-index l.numbers))
