use Rattle.std.proofs.Common.{◌≡◌, ◌∙◌, List, ℤ, pos, sym, subst}
use Rattle.std.specs.Prelude.{MatchOption}
use Rattle.frac128.proofs.CommonLemmas.{nums_of}
use Rattle.poly_specs.specs.Bits.{NonePasses}
use Rattle.poly_specs.specs.Denominators.{common_den, common_nums, common_numbers}
use Rattle.gap_runs.proofs.parts.common_of.Goals as goal

pub point_of-requires-clause-fit : goal.point_of-requires-clause-fit
point_of-requires-clause-fit c =
    let said = subst (λ o. MatchOption o (NonePasses (common_numbers c.args.numbers.now) → ⊥)
    (λ v. NonePasses (common_numbers c.args.numbers.now) × (v.nums.items ≡ common_nums c.args.numbers.now) × (v.den ≡ pos (common_den c.args.numbers.now)))) c.unwrap-common.ensures c.over_common.ensures.value in
    subst (λ (ns : List ℤ). NonePasses ns) (sym (c.as_slice.ensures ∙ said.1)) (nums_of c.args.numbers.now said.0)
