use Rattle.std.proofs.Common.{◌≡◌, Err, List, ap, rules, subst}
use Rattle.fm_eliminate.specs.declared.RowFault.TheVariants.{Passes}
use Rattle.poly_specs.specs.Fractions.{Fraction}
use Rattle.column_pick.specs.Nexts.{whole_of, NextPasses}
use Rattle.column_pick.proofs.picking.add_number.Goals as goal

pub returns-in_err-number-clause-passes : goal.returns-in_err-number-clause-passes
returns-in_err-number-clause-passes c e =
    let same : c.in_err-number.field-0.0 ≡ Passes = search rules in
    subst (λ (xs : List Fraction). NextPasses (whole_of c.args.levels.now) xs) c.as_slice.ensures.value (c.in_err-number.ensures.passes (ap (λ f. Err f) same))
