use Rattle.poly_specs.proofs.CombinationLemmas.{gcd-IsGcd}
use Rattle.poly_specs.proofs.gcd_is_greatest.Goals as goal

pub returns : goal.returns
returns c = gcd-IsGcd
