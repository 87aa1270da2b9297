use Rattle.std.proofs.Common.{◌∙◌, ◌∷◌, [], ◌++◌, ℤ, ap, subst, arith, unsigned_abs, to_z, of_z, SFits, rules}
use Rattle.std.specs.Int.{w128}
use Rattle.std.proofs.lemmas.Int.{to_z-of_z}
use Rattle.poly_specs.specs.Bits.{FitsBits}
use Rattle.poly_specs.specs.Denominators.{num_over}
use Rattle.frac128.proofs.CommonLemmas.{mapped, numerator_passes, fits_more, none_case}
use Rattle.frac128.proofs.common.numerators.Goals as goal

pub returns-in_err-numerator : goal.returns-in_err-numerator
returns-in_err-numerator c =
    let fits : SFits w128 c.args.den = search rules in
    let raw : FitsBits (num_over (unsigned_abs (to_z w128 (of_z w128 c.args.den))) c.x-item.result) → ⊥ = c.in_err-numerator.ensures in
    let passes = subst (λ (d : ℤ). FitsBits (num_over (unsigned_abs d) c.x-item.result) → ⊥) (to_z-of_z w128 c.args.den fits) raw in
    none_case c.from_residual.result _ _ c.from_residual.ensures
    (numerator_passes (num_over (unsigned_abs c.args.den)) c.args.numbers.now c.loop-x.x-index c.x-item.result (omega arith) c.x-item.is passes)

pub loop-x-preserved : goal.loop-x-preserved
loop-x-preserved c =
    let f = num_over (unsigned_abs (to_z w128 (of_z w128 c.args.den))) in
    let fits : SFits w128 c.in_ok-numerator.field-0 = search rules in
    let pushed = c.push_reserved.ensures.items ∙ ap (λ (z : ℤ). c.loop-x.nums.items ++ z ∷ []) (to_z-of_z w128 c.in_ok-numerator.field-0 fits ∙ c.in_ok-numerator.ensures.1) in (
      mapped f c.args.numbers.now c.loop-x.x-index c.x-item.result c.loop-x.nums.items c.push_reserved.new.self.items (omega arith) c.x-item.is c.loop-x.invariant.0 pushed,
      fits_more f c.args.numbers.now c.loop-x.x-index c.x-item.result (omega arith) c.x-item.is c.in_ok-numerator.ensures.0 c.loop-x.invariant.1,
      c.push_reserved.ensures.capacity ∙ c.loop-x.invariant.2,
    )
