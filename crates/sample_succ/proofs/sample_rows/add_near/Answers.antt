use Rattle.std.proofs.Common.{Some, sym, subst}
use Rattle.poly_specs.proofs.InclusionLemmas.{in_right}
use Rattle.poly_specs.specs.Arithmetic.{sum_numbers}
use Rattle.poly_specs.specs.Bits.{SomePasses}
use Rattle.poly_specs.specs.Fractions.{opposite}
use Rattle.sample_succ.proofs.StageFacts.{passes_more}
use Rattle.run_specs.specs.Stages.{near_sums}
use Rattle.sample_succ.proofs.sample_rows.add_near.Goals as goal

pub returns-in_err-low-clause-passes : goal.returns-in_err-low-clause-passes
returns-in_err-low-clause-passes c e =
    let v = c.in-Some.v in
    let w = c.args.w.now in
    subst (λ o. SomePasses (near_sums w o)) (sym c.in-Some.is)
    (passes_more (sum_numbers v (opposite w)) (near_sums w (Some v)) (λ z i. in_right z (sum_numbers v w) (sum_numbers v (opposite w)) i) c.in_err-low.ensures.passes)
