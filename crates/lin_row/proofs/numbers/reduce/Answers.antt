use Rattle.std.proofs.Common.{◌≡◌, ◌∙◌, SFits, ap, false, pos, map, int_div, rules}
use Rattle.std.specs.Int.{w128}
use Rattle.std.proofs.lemmas.Int.{to_z-of_z}
use Rattle.lin_row.proofs.DivisorLemmas.{divided_coef, divided_cst}
use Rattle.poly_specs.specs.Elimination.{divisor}
use Rattle.lin_row.proofs.numbers.reduce.Goals as goal

module _ (c : goal.After-quotient) where
  factor_fits : SFits w128 c.row_divisor-factor.result
  factor_fits = search rules

  quotient_fits : SFits w128 c.quotient.result
  quotient_fits = search rules

  factor_is : c.row_divisor-factor.result ≡ pos (divisor (record { coef = c.args.coef.now.items; cst = c.args.cst; strict = false }))
  factor_is =
      let said : c.row_divisor-factor.result ≡ pos (divisor (record { coef = c.as_slice.result.now; cst = c.args.cst; strict = false })) =
      simp (to_z-of_z, c.ranges.cst) at c.row_divisor-factor.ensures.value in
      said ∙ ap (λ cs. pos (divisor (record { coef = cs; cst = c.args.cst; strict = false }))) c.as_slice.ensures

  items_are : c.divide.new.numbers.items ≡ map (λ z. int_div z c.row_divisor-factor.result) c.args.coef.now.items
  items_are = simp (to_z-of_z, factor_fits) at c.divide.ensures.items

  cst_is : c.quotient.result ≡ int_div c.args.cst c.row_divisor-factor.result
  cst_is = simp (to_z-of_z, c.ranges.cst, factor_fits) at c.quotient.ensures

pub returns-clause-coef : goal.returns-clause-coef
returns-clause-coef c = divided_coef c.args.coef.now.items c.args.cst false c.row_divisor-factor.result c.divide.new.numbers.items (factor_is c) (items_are c)

pub returns-clause-cst : goal.returns-clause-cst
returns-clause-cst c =
    to_z-of_z w128 c.quotient.result (quotient_fits c)
    ∙ divided_cst c.args.coef.now.items c.args.cst false c.row_divisor-factor.result c.quotient.result (factor_is c) (cst_is c)
