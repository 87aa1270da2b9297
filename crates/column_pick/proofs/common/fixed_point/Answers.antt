use Rattle.std.proofs.Common.{◌∙◌, List, ℤ, sym, subst}
use Rattle.fm_eliminate.proofs.HoldingLemmas.{some_passes}
use Rattle.frac128.proofs.CommonLemmas.{nums_of}
use Rattle.poly_specs.specs.Bits.{NonePasses}
use Rattle.poly_specs.specs.Denominators.{common_numbers}
use Rattle.column_pick.proofs.common.fixed_point.Goals as goal

pub returns-in_default-clause-passes : goal.returns-in_default-clause-passes
returns-in_default-clause-passes c e = some_passes (common_numbers c.args.numbers.now) c.in_default.ensures.value

pub point_over-requires-clause-fit : goal.point_over-requires-clause-fit
point_over-requires-clause-fit c =
    subst (λ (zs : List ℤ). NonePasses zs) (sym (c.as_slice.ensures ∙ c.in-Some.ensures.value.1)) (nums_of c.args.numbers.now c.in-Some.ensures.value.0)
