use Rattle.std.proofs.Common.{map}
use Rattle.std.proofs.lemmas.Result.{err_from_is_err_and}
use Rattle.lang_specs.specs.declared.Kind.TheVariants as kinds
use Rattle.lang_specs.specs.Expressions.{AreRows}
use Rattle.lang_order.specs.Statements.{Inv}
use Rattle.lang_order.proofs.Things.{inv_says}
use Rattle.lang_rows.specs.RowMachine.{row_limits}
use Rattle.lang_lines.proofs.Agreements.{invariants_alike}
use Rattle.lang_tokens.specs.Places.{placed_of}
use Rattle.lang_tokens.specs.LineFaults.{marks}
use Rattle.lang_lines.proofs.Readings.{stand, is_read, body_fault}
use Rattle.lang_lines.proofs.lists.invariants.Goals as goal

pub returns-in_err-rows-clause-fault : goal.returns-in_err-rows-clause-fault
returns-in_err-rows-clause-fault c =
    let p = err_from_is_err_and c.from_residual.result c.from_residual.ensures.1 in
    let ts = map (placed_of c.args.line) c.args.tokens.now in
    rw (p.1, p.2) (body_fault (AreRows c.args.second) row_limits Inv invariants_alike c.args.second kinds.Inv (inv_says c.args.second) c.args.line ts _ (stand c.args.line c.args.tokens.now) c.in_err-rows.ensures.fault)

pub returns-clause-ok : goal.returns-clause-ok
returns-clause-ok c =
    let ts = map (placed_of c.args.line) c.args.tokens.now in
    is_read (AreRows c.args.second) row_limits Inv invariants_alike c.args.second kinds.Inv (inv_says c.args.second) (marks ts) _ c.in_ok-rows.ensures.ok
