use Rattle.std.proofs.Common.{refl, ◌++◌, arith}
use Rattle.lang_specs.specs.Trees.{RowTree}
use Rattle.model_specs.specs.Faults.{unknown_in}
use Rattle.model_specs.specs.Faults.{unknown_in_rows}
use Rattle.lha_check.proofs.FirstLemmas.{exits, flat_fails_at, flat_goes_on, flat_has_ended}
use Rattle.lha_check.proofs.expressions.known_in_rows.Goals as goal

pub returns-in_err-known_in_row-clause-fault : goal.returns-in_err-known_in_row-clause-fault
returns-in_err-known_in_row-clause-fault c =
    exits c.from_residual.result _ c.in_err-known_in_row.field-0.0 c.from_residual.ensures.1
    (flat_fails_at (unknown_in_rows c.args.line c.args.vars.now) (λ (r : RowTree). unknown_in c.args.line c.args.vars.now r.left ++ unknown_in c.args.line c.args.vars.now r.right) (λ r rs. refl)
    c.args.rows.now c.loop-row.row-index c.row-item.result _ c.in_err-known_in_row.field-0.0 (omega arith) c.row-item.is c.loop-row.invariant c.in_err-known_in_row.ensures.fault)

pub loop-row-preserved : goal.loop-row-preserved
loop-row-preserved c =
    flat_goes_on (unknown_in_rows c.args.line c.args.vars.now) (λ (r : RowTree). unknown_in c.args.line c.args.vars.now r.left ++ unknown_in c.args.line c.args.vars.now r.right) (λ r rs. refl)
    c.args.rows.now c.loop-row.row-index c.row-item.result _ (omega arith) c.row-item.is c.loop-row.invariant c.in_ok-known_in_row.ensures.none

pub returns-clause-none : goal.returns-clause-none
returns-clause-none c = flat_has_ended (unknown_in_rows c.args.line c.args.vars.now) refl c.args.rows.now c.loop-row.row-index _ (omega arith) c.loop-row.invariant
