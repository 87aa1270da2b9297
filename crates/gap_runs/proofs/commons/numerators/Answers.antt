use Rattle.std.proofs.Common.{◌≡◌, ◌∙◌, ◌≤◌, Err, ℤ, map, length, ap, subst, arith, unsigned_abs, to_z, of_z, SFits, rules}
use Rattle.std.specs.Int.{w128}
use Rattle.std.proofs.lemmas.Int.{to_z-of_z}
use Rattle.std.proofs.lemmas.List.{take_all}
use Rattle.fm_eliminate.specs.declared.RowFault.TheVariants.{Passes}
use Rattle.poly_specs.specs.Bits.{FitsBits}
use Rattle.poly_specs.specs.Denominators.{num_over}
use Rattle.frac128.proofs.CommonLemmas.{mapped, numerator_passes, fits_more}
use Rattle.gap_runs.proofs.commons.numerators.Goals as goal

pub returns-in_err-add_numerator-clause-passes : goal.returns-in_err-add_numerator-clause-passes
returns-in_err-add_numerator-clause-passes c e =
    let fits : SFits w128 c.args.den = search rules in
    let same : c.in_err-add_numerator.field-0.0 ≡ Passes = search rules in
    let passes = subst (λ (d : ℤ). FitsBits (num_over (unsigned_abs d) c.x-item.result) → ⊥) (to_z-of_z w128 c.args.den fits) (c.in_err-add_numerator.ensures.passes (ap (λ f. Err f) same)) in
    numerator_passes (num_over (unsigned_abs c.args.den)) c.args.numbers.now c.loop-x.x-index c.x-item.result (omega arith) c.x-item.is passes

pub loop-x-preserved : goal.loop-x-preserved
loop-x-preserved c =
    let f = num_over (unsigned_abs (to_z w128 (of_z w128 c.args.den))) in (
      mapped f c.args.numbers.now c.loop-x.x-index c.x-item.result c.loop-x.nums.items c.add_numerator.new.nums.items (omega arith) c.x-item.is c.loop-x.invariant.0 c.in_ok-add_numerator.ensures.ok,
      fits_more f c.args.numbers.now c.loop-x.x-index c.x-item.result (omega arith) c.x-item.is c.in_ok-add_numerator.ensures.fits c.loop-x.invariant.1,
    )

pub returns-clause-ok : goal.returns-clause-ok
returns-clause-ok c =
    let fits : SFits w128 c.args.den = search rules in
    let f = num_over (unsigned_abs (to_z w128 (of_z w128 c.args.den))) in
    let end : length c.args.numbers.now ≤ c.loop-x.x-index = omega arith in
    c.loop-x.invariant.0 ∙ ap (map f) (take_all c.loop-x.x-index c.args.numbers.now end) ∙ ap (λ (d : ℤ). map (num_over (unsigned_abs d)) c.args.numbers.now) (to_z-of_z w128 c.args.den fits)
