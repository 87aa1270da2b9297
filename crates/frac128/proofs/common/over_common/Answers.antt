use Rattle.std.proofs.Common.{◌≡◌, ◌∙◌, ℤ, map, pos, sym, subst, unsigned_abs, to_z, of_z, SFits, rules}
use Rattle.std.specs.Int.{w128}
use Rattle.std.proofs.lemmas.Int.{to_z-of_z}
use Rattle.poly_specs.specs.Bits.{NonePasses}
use Rattle.poly_specs.specs.Denominators.{common_den, num_over}
use Rattle.frac128.proofs.CommonLemmas.{none_case, nums_of}
use Rattle.frac128.proofs.common.over_common.Goals as goal

pub returns-in_err-nums-clause-value : goal.returns-in_err-nums-clause-value
returns-in_err-nums-clause-value c =
    let fits : SFits w128 c.in_ok-den.den = search rules in
    let den : to_z w128 (of_z w128 c.in_ok-den.den) ≡ pos (common_den c.args.numbers.now) = to_z-of_z w128 c.in_ok-den.den fits ∙ c.in_ok-den.ensures.value.1 in
    none_case c.from_residual-in_err-nums.result _ _ c.from_residual-in_err-nums.ensures
    (λ all. c.in_err-nums.ensures (subst (λ (z : ℤ). NonePasses (map (num_over (unsigned_abs z)) c.args.numbers.now)) (sym den) (nums_of c.args.numbers.now all)))
