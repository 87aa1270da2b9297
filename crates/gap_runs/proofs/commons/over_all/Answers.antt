use Rattle.std.proofs.Common.{◌∙◌, ℤ, map, subst, unsigned_abs, SFits, rules}
use Rattle.std.specs.Int.{w128}
use Rattle.std.proofs.lemmas.Int.{to_z-of_z}
use Rattle.fm_eliminate.proofs.HoldingLemmas.{some_passes}
use Rattle.frac128.proofs.CommonLemmas.{nums_of}
use Rattle.poly_specs.specs.Bits.{NonePasses}
use Rattle.poly_specs.specs.Denominators.{common_numbers, num_over}
use Rattle.gap_runs.proofs.commons.over_all.Goals as goal

pub returns-clause-passes : goal.returns-clause-passes
returns-clause-passes c e =
    let fits : SFits w128 c.in-Some.den = search rules in
    let none = subst (λ (d : ℤ). NonePasses (map (num_over (unsigned_abs d)) c.args.numbers.now) → ⊥) (to_z-of_z w128 c.in-Some.den fits ∙ c.in-Some.ensures.value.1) (c.over_den.ensures.passes e) in
    some_passes (common_numbers c.args.numbers.now) (λ all. none (nums_of c.args.numbers.now all))
