use Rattle.std.proofs.Common.{refl}
use Rattle.poly_specs.specs.Elimination.{gcd, divisor, divided}
use Rattle.model_specs.proofs.examples.sums_in_order.Goals as goal

pub returns : goal.returns
unfolding gcd divisor divided
returns c = (refl, refl, refl)
