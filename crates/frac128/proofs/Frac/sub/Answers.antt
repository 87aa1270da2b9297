use Rattle.std.proofs.Common.{subst, SomeIff}
use Rattle.poly_specs.proofs.LowestLemmas.{sum-opposite}
use Rattle.poly_specs.specs.Arithmetic.{lowest, sum_numbers}
use Rattle.poly_specs.specs.Bits.{NonePasses}
use Rattle.poly_specs.specs.Fractions.{Fraction, sum_of, opposite}
use Rattle.frac128.proofs.Frac.sub.Goals as goal

pub returns : goal.returns
returns c =
    let r = c.add.result in
    let x = c.args.self.now in
    let y = opposite c.args.other.now in
    subst (λ (z : Fraction). SomeIff r (NonePasses (sum_numbers x y)) (lowest z)) (sum-opposite x c.args.other.now)
    (subst (λ (z : Fraction). SomeIff r (NonePasses (sum_numbers x z)) (lowest (sum_of x z))) c.neg.ensures c.add.ensures)
