use Rattle.std.proofs.Common.{◌<ℤ◌, pos, ℤ, SFits, rules, subst, sym, to_z, of_z}
use Rattle.std.specs.Int.{w128}
use Rattle.std.proofs.lemmas.Int.{to_z-of_z}
use Rattle.frac128.proofs.CommonLemmas.{multiple_positive}
use Rattle.gap_runs.proofs.commons.with_den.Goals as goal

pub returns-clause-positive : goal.returns-clause-positive
returns-clause-positive c =
    let den_fits : SFits w128 c.args.den = search rules in
    let part_fits : SFits w128 c.den.result = search rules in
    multiple_positive (to_z w128 (of_z w128 c.args.den)) (to_z w128 (of_z w128 c.den.result)) c.common_multiple.result
    (subst (λ (z : ℤ). pos 0 <ℤ z) (sym (to_z-of_z w128 c.args.den den_fits)) c.requires.positive)
    (subst (λ (z : ℤ). pos 0 <ℤ z) (sym (to_z-of_z w128 c.den.result part_fits))
    (subst (λ (z : ℤ). pos 0 <ℤ z) (sym c.den.ensures.value) c.den.ensures.kept.positive))
    c.common_multiple.ensures
