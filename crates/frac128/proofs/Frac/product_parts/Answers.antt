use Rattle.std.proofs.Common.{◌≡◌, SFits, SomeIff, int_div, pos, unsigned_abs, ◌*ℤ◌, subst₂, rules}
use Rattle.std.proofs.lemmas.Int.{to_z-of_z}
use Rattle.std.specs.Int.{w128}
use Rattle.poly_specs.specs.Elimination.{gcd}
use Rattle.poly_specs.specs.Fractions.{Fraction}
use Rattle.frac128.proofs.PartLemmas.{product_says, ProductFits, ProductSays}
use Rattle.frac128.proofs.Frac.product_parts.Goals as goal

module _ (c : goal.After-product_over) where
  abbrev x : Fraction
  x = record { num = c.self.inside.num; den = c.self.inside.den }

  abbrev y : Fraction
  y = record { num = c.other.inside.num; den = c.other.inside.den }

  x_num : SFits w128 c.self.inside.num
  x_num = search rules

  x_den : SFits w128 c.self.inside.den
  x_den = search rules

  y_num : SFits w128 c.other.inside.num
  y_num = search rules

  y_den : SFits w128 c.other.inside.den
  y_den = search rules

  shared_fits : SFits w128 c.shared_factor-shared.result
  shared_fits = search rules

  back_fits : SFits w128 c.shared_factor-shared_back.result
  back_fits = search rules

  a_fits : SFits w128 c.without_factor-num.result
  a_fits = search rules

  c_fits : SFits w128 c.without_factor-other_num.result
  c_fits = search rules

  b_fits : SFits w128 c.without_factor-den.result
  b_fits = search rules

  d_fits : SFits w128 c.without_factor-other_den.result
  d_fits = search rules

  shared_is : c.shared_factor-shared.result ≡ pos (gcd (unsigned_abs c.self.inside.num) (unsigned_abs c.other.inside.den))
  shared_is = simp (to_z-of_z, x_num, y_den) at c.shared_factor-shared.ensures.value

  back_is : c.shared_factor-shared_back.result ≡ pos (gcd (unsigned_abs c.other.inside.num) (unsigned_abs c.self.inside.den))
  back_is = simp (to_z-of_z, y_num, x_den) at c.shared_factor-shared_back.ensures.value

  a_is : c.without_factor-num.result ≡ int_div c.self.inside.num c.shared_factor-shared.result
  a_is = simp (to_z-of_z, x_num, shared_fits) at c.without_factor-num.ensures

  c_is : c.without_factor-other_num.result ≡ int_div c.other.inside.num c.shared_factor-shared_back.result
  c_is = simp (to_z-of_z, y_num, back_fits) at c.without_factor-other_num.ensures

  b_is : c.without_factor-den.result ≡ int_div c.self.inside.den c.shared_factor-shared_back.result
  b_is = simp (to_z-of_z, x_den, back_fits) at c.without_factor-den.ensures

  d_is : c.without_factor-other_den.result ≡ int_div c.other.inside.den c.shared_factor-shared.result
  d_is = simp (to_z-of_z, y_den, shared_fits) at c.without_factor-other_den.ensures

  said : SomeIff c.product_over.result
      (ProductFits c.without_factor-num.result c.without_factor-other_num.result c.without_factor-den.result c.without_factor-other_den.result)
      (c.without_factor-num.result *ℤ c.without_factor-other_num.result, c.without_factor-den.result *ℤ c.without_factor-other_den.result)
  said = simp (to_z-of_z, a_fits, b_fits, c_fits, d_fits) at c.product_over.ensures

  says : ProductSays c.product_over.result c.args.self.now c.args.other.now
  says = subst₂ (ProductSays c.product_over.result) c.self.view_is c.other.view_is
      (product_says c.product_over.result x y c.shared_factor-shared.result c.shared_factor-shared_back.result
      c.without_factor-num.result c.without_factor-other_num.result c.without_factor-den.result c.without_factor-other_den.result
      c.self.invariant.positive c.other.invariant.positive shared_is back_is a_is c_is b_is d_is said)

pub returns-clause-kept : goal.returns-clause-kept
returns-clause-kept c = (says c).0

pub returns-clause-product : goal.returns-clause-product
returns-clause-product c = (says c).1
