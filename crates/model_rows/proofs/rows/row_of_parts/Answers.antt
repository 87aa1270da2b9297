use Rattle.std.proofs.Common.{◌≡◌, ◌∙◌, List, length, ap, sym, subst, arith}
use Rattle.std.proofs.lemmas.List.Elements.{All-append}
use Rattle.poly_specs.specs.Bits.{FitsBits, NonePasses}
use Rattle.poly_specs.specs.Denominators.{common_numbers}
use Rattle.poly_specs.specs.Fractions.{Fraction}
use Rattle.model_specs.specs.Parts.{sums}
use Rattle.model_rows.specs.Columns.{sums_numbers}
use Rattle.model_rows.proofs.TotalLemmas.{length-sums, fits_right}
use Rattle.model_rows.proofs.rows.row_of_parts.Goals as goal

pub row_of_sums-requires-clause-few : goal.row_of_sums-requires-clause-few
row_of_sums-requires-clause-few c =
    let n = length-sums c.args.width c.args.parts.now in
    let m : length c.as_slice.result.now ≡ length (sums c.args.width c.args.parts.now) = ap length (c.as_slice.ensures.value ∙ c.in_ok-totals.ensures.ok) in
    omega (arith, n, m)

pub returns-in-None-clause-passes : goal.returns-in-None-clause-passes
returns-in-None-clause-passes c e all =
    c.in-None.ensures
    (subst (λ (xs : List Fraction). NonePasses (common_numbers xs)) (sym (c.as_slice.ensures.value ∙ c.in_ok-totals.ensures.ok))
    (fits_right (sums_numbers c.args.width c.args.parts.now) (common_numbers (sums c.args.width c.args.parts.now)) all))

pub returns-clause-kept : goal.returns-clause-kept
returns-clause-kept c =
    All-append FitsBits (sums_numbers c.args.width c.args.parts.now) (common_numbers (sums c.args.width c.args.parts.now)) c.in_ok-totals.ensures.kept
    (subst (λ (xs : List Fraction). NonePasses (common_numbers xs)) (c.as_slice.ensures.value ∙ c.in_ok-totals.ensures.ok) c.in-Some.ensures.0)
