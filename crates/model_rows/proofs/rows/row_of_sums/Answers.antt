use Rattle.std.proofs.Common.{◌∙◌, List, ℤ, sym, subst}
use Rattle.frac128.proofs.CommonLemmas.{nums_of}
use Rattle.poly_specs.specs.Bits.{NonePasses}
use Rattle.model_rows.proofs.rows.row_of_sums.Goals as goal

pub row_over-requires-clause-fit : goal.row_over-requires-clause-fit
row_over-requires-clause-fit c =
    subst (λ (zs : List ℤ). NonePasses zs) (sym (c.as_slice.ensures ∙ c.in_ok-common.ensures.value.1)) (nums_of c.args.totals.now c.in_ok-common.ensures.value.0)
