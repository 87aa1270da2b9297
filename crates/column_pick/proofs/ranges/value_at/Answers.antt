use Rattle.std.proofs.Common.{◌∙◌, SFits, rules, subst, ℤ, List, SomeIff}
use Rattle.std.specs.Int.{w128}
use Rattle.std.proofs.lemmas.Int.{to_z-of_z}
use Rattle.poly_specs.specs.Bits.{NonePasses}
use Rattle.poly_specs.specs.Evaluation.{eval_numbers}
use Rattle.poly_specs.specs.Rows.{over, row_value}
use Rattle.column_pick.proofs.RowLemmas.{evaluated, not_evaluated}
use Rattle.column_pick.proofs.ranges.value_at.Goals as goal

module _ (c : goal.After-eval) where
  said : SomeIff c.eval.result (NonePasses (eval_numbers c.args.row.now c.args.point.now.num c.args.point.now.den)) (row_value c.args.row.now c.args.point.now)
  said =
      let fits : SFits w128 c.den.result = search rules in
      subst (λ (ns : List ℤ). SomeIff c.eval.result (NonePasses (eval_numbers c.args.row.now ns c.args.point.now.den)) (row_value c.args.row.now (over c.args.point.now.den ns))) c.num.ensures.value
      (subst (λ (d : ℤ). SomeIff c.eval.result (NonePasses (eval_numbers c.args.row.now c.num.result.now d)) (row_value c.args.row.now (over d c.num.result.now)))
      (to_z-of_z w128 c.den.result fits ∙ c.den.ensures.value) c.eval.ensures)

pub returns-clause-some : goal.returns-clause-some
returns-clause-some c = evaluated c.eval.result c.args.row.now c.args.point.now (said c)

pub returns-clause-none : goal.returns-clause-none
returns-clause-none c e = not_evaluated c.eval.result c.args.row.now c.args.point.now (said c) e
