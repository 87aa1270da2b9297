use Rattle.std.proofs.Common.{◌∷◌, [], ◌++◌, ◌<ℤ◌, pos, ℤ, take, subst, sym, SomeIff, IfSome, arith, Option}
use Rattle.poly_specs.specs.Bits.{FitsBits}
use Rattle.poly_specs.specs.Denominators.{common_den}
use Rattle.frac128.proofs.CommonLemmas.{common_passes}
use Rattle.gap_runs.proofs.commons.den_of.Goals as goal

pub returns-in_err-den : goal.returns-in_err-den
returns-in_err-den c =
    let passes : FitsBits (pos (common_den (take c.loop-x.x-index c.args.numbers.now ++ c.x-item.result ∷ []))) → ⊥ =
    c.in_err-den.ensures.value (take c.loop-x.x-index c.args.numbers.now) c.loop-x.invariant.0 in
    record {
      value = subst (λ (o : Option ℤ). SomeIff o (FitsBits (pos (common_den c.args.numbers.now))) (pos (common_den c.args.numbers.now))) (sym c.from_residual.ensures)
          (common_passes c.args.numbers.now c.loop-x.x-index c.x-item.result c.requires (omega arith) c.x-item.is passes);
      positive = subst (λ (o : Option ℤ). IfSome o (λ d. pos 0 <ℤ d)) (sym c.from_residual.ensures) tt;
    }
