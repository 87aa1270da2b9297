use Rattle.std.proofs.Common.{◌≡◌, rules, SFits}
use Rattle.std.specs.Int.{w128}
use Rattle.std.proofs.lemmas.Int.{to_z-of_z}
use Rattle.replay_specs.specs.RunChecks.{row_steps}
use Rattle.run_check.proofs.StepLemmas.{leads_all, rows_more, rows_stop, rows_end}
use Rattle.run_check.proofs.rows.rows_hold.Goals as goal

pub loop-row-init : goal.loop-row-init
loop-row-init c =
    let fits : SFits w128 c.args.den = search rules in
    simp (to_z-of_z, fits) (leads_all (row_steps c.args.rows.now c.args.den c.args.num.now))

pub returns-in_err-row_holds : goal.returns-in_err-row_holds
returns-in_err-row_holds c =
    let same : c.from_residual.result ≡ c.row_holds.result = search rules in
    let fits : SFits w128 c.args.den = search rules in
    rows_stop c.args.den c.args.num.now c.args.rows.now (row_steps c.args.rows.now c.args.den c.args.num.now) c.loop-row.row-index c.row-item.result
    c.loop-row-test.true c.row-item.is (simp (to_z-of_z, fits) at c.loop-row.invariant) c.from_residual.result c.row_holds.result c.in_err-row_holds.field-0.0
    c.in_err-row_holds.was same (simp (to_z-of_z, fits) at c.row_holds.ensures)

pub loop-row-preserved : goal.loop-row-preserved
loop-row-preserved c =
    let fits : SFits w128 c.args.den = search rules in
    simp (to_z-of_z, fits)
    (rows_more c.args.den c.args.num.now c.args.rows.now (row_steps c.args.rows.now c.args.den c.args.num.now) c.loop-row.row-index c.row-item.result
    c.loop-row-test.true c.row-item.is (simp (to_z-of_z, fits) at c.loop-row.invariant) c.row_holds.result c.in_ok-row_holds.was (simp (to_z-of_z, fits) at c.row_holds.ensures))

pub returns : goal.returns
returns c =
    let fits : SFits w128 c.args.den = search rules in
    rows_end c.args.den c.args.num.now c.args.rows.now (row_steps c.args.rows.now c.args.den c.args.num.now) c.loop-row.row-index
    c.loop-row-test.false (simp (to_z-of_z, fits) at c.loop-row.invariant)
