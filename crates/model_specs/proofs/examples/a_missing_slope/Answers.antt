use Rattle.std.proofs.Common.{refl}
use Rattle.poly_specs.specs.Elimination.{gcd, divisor, divided}
use Rattle.model_specs.proofs.examples.a_missing_slope.Goals as goal

pub returns : goal.returns
unfolding gcd divisor divided
returns c = (refl, refl)
