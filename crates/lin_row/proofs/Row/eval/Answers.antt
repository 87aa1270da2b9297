use Rattle.std.proofs.Common.{◌≡◌, subst, SFits, SomeIff, rules, pos, ◌+ℤ◌, ◌*ℤ◌}
use Rattle.std.specs.Int.{w128}
use Rattle.std.proofs.lemmas.Int.{to_z-of_z}
use Rattle.lin_row.proofs.EvaluationLemmas.{ProductFits, eval_stops, eval_says}
use Rattle.poly_specs.specs.Bits.{NonePasses}
use Rattle.poly_specs.specs.Evaluation.{running, eval_numbers}
use Rattle.poly_specs.specs.Lists.{dot}
use Rattle.poly_specs.specs.Rows.{Row, over, row_value}
use Rattle.lin_row.proofs.Row.eval.Goals as goal

pub returns-in_err-sum : goal.returns-in_err-sum
returns-in_err-sum c =
    let r : Row = record { coef = c.self.inside.coef.items; cst = c.self.inside.cst; strict = c.self.inside.strict } in
    let same : r ≡ c.args.self.now = c.self.view_is in
    let none : NonePasses (running (pos 0) r.coef c.args.num.now) → ⊥ = rw c.as_slice.ensures at c.in_err-sum.ensures in
    rw c.from_residual.ensures
    (subst (λ (s : Row). NonePasses (eval_numbers s c.args.num.now c.args.den) → ⊥) same (eval_stops r c.args.num.now c.args.den (pos 0) none))

pub returns : goal.returns
returns c =
    let r : Row = record { coef = c.self.inside.coef.items; cst = c.self.inside.cst; strict = c.self.inside.strict } in
    let same : r ≡ c.args.self.now = c.self.view_is in
    let f : SFits w128 c.self.inside.cst = search rules in
    let s : SFits w128 c.in_ok-sum.sum = search rules in
    let d = c.ranges.den in
    let sum : NonePasses (running (pos 0) r.coef c.args.num.now) × (c.in_ok-sum.sum ≡ dot r.coef c.args.num.now) = rw c.as_slice.ensures at c.in_ok-sum.ensures in
    let said : SomeIff c.add_product.result (ProductFits c.in_ok-sum.sum r.cst c.args.den) (c.in_ok-sum.sum +ℤ r.cst *ℤ c.args.den) = simp (to_z-of_z, f, s, d) at c.add_product.ensures in
    subst (λ (t : Row). SomeIff c.add_product.result (NonePasses (eval_numbers t c.args.num.now c.args.den)) (row_value t (over c.args.den c.args.num.now))) same
    (eval_says r c.args.num.now c.args.den c.in_ok-sum.sum c.add_product.result sum.0 sum.1 said)
