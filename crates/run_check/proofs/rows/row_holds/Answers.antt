use Rattle.std.proofs.Common.{SFits, rules}
use Rattle.std.specs.Int.{w128}
use Rattle.std.proofs.lemmas.Int.{to_z-of_z}
use Rattle.run_check.proofs.StepLemmas.{row_passes, row_met}
use Rattle.run_check.proofs.rows.row_holds.Goals as goal

pub returns-in_default : goal.returns-in_default
returns-in_default c =
    let fits : SFits w128 c.args.den = search rules in
    row_passes c.args.row.now c.args.den c.args.num.now (simp (to_z-of_z, fits) at c.in_default.ensures)

pub returns : goal.returns
returns c =
    let fits : SFits w128 c.args.den = search rules in
    let sum_fits : SFits w128 c.in-Some.sum = search rules in
    let said = simp (to_z-of_z, fits) at c.in-Some.ensures in
    row_met c.args.row.now c.args.den c.args.num.now c.in-Some.sum c.is_allowed.result said.0 said.1
    (simp (to_z-of_z, sum_fits, c.strict.ensures.value) at c.is_allowed.ensures) c.if-not-is_allowed.false
