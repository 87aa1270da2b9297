use Rattle.std.proofs.Common.{◌≡◌, SFits, int_div, pos, unsigned_abs, subst₂, rules}
use Rattle.std.proofs.lemmas.Int.{to_z-of_z}
use Rattle.std.specs.Int.{w128}
use Rattle.poly_specs.specs.Elimination.{gcd}
use Rattle.poly_specs.specs.Fractions.{Fraction}
use Rattle.frac128.proofs.PartLemmas.{sum_says, SumAt, SumSays}
use Rattle.frac128.proofs.Frac.sum_parts.Goals as goal

module _ (c : goal.After-sum_over) where
  abbrev x : Fraction
  x = record { num = c.self.inside.num; den = c.self.inside.den }

  abbrev y : Fraction
  y = record { num = c.other.inside.num; den = c.other.inside.den }

  x_num : SFits w128 c.self.inside.num
  x_num = search rules

  x_den : SFits w128 c.self.inside.den
  x_den = search rules

  y_num : SFits w128 c.other.inside.num
  y_num = search rules

  y_den : SFits w128 c.other.inside.den
  y_den = search rules

  shared_fits : SFits w128 c.shared_factor-shared.result
  shared_fits = search rules

  left_fits : SFits w128 c.without_factor-left_factor.result
  left_fits = search rules

  right_fits : SFits w128 c.without_factor-right_factor.result
  right_fits = search rules

  shared_is : c.shared_factor-shared.result ≡ pos (gcd (unsigned_abs c.self.inside.den) (unsigned_abs c.other.inside.den))
  shared_is = simp (to_z-of_z, x_den, y_den) at c.shared_factor-shared.ensures.value

  left_is : c.without_factor-left_factor.result ≡ int_div c.other.inside.den c.shared_factor-shared.result
  left_is = simp (to_z-of_z, y_den, shared_fits) at c.without_factor-left_factor.ensures

  right_is : c.without_factor-right_factor.result ≡ int_div c.self.inside.den c.shared_factor-shared.result
  right_is = simp (to_z-of_z, x_den, shared_fits) at c.without_factor-right_factor.ensures

  said : SumAt c.sum_over.result x y c.without_factor-left_factor.result c.without_factor-right_factor.result
  said = simp (to_z-of_z, x_num, x_den, y_num, left_fits, right_fits) at c.sum_over.ensures

  says : SumSays c.sum_over.result c.args.self.now c.args.other.now
  says = subst₂ (SumSays c.sum_over.result) c.self.view_is c.other.view_is
      (sum_says c.sum_over.result x y c.shared_factor-shared.result c.without_factor-left_factor.result c.without_factor-right_factor.result
      c.self.invariant.positive c.other.invariant.positive shared_is left_is right_is said)

pub returns-clause-kept : goal.returns-clause-kept
returns-clause-kept c = (says c).0

pub returns-clause-sum : goal.returns-clause-sum
returns-clause-sum c = (says c).1
