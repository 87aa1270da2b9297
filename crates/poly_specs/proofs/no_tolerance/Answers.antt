use Rattle.poly_specs.proofs.FractionLemmas.{DifferAtMost-zero}
use Rattle.poly_specs.proofs.no_tolerance.Goals as goal

pub returns : goal.returns
returns c = DifferAtMost-zero
