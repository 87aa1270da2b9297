use Rattle.std.proofs.Common.{map}
use Rattle.std.proofs.lemmas.Result.{err_from_is_err_and}
use Rattle.lang_specs.specs.Expressions.{AreRows}
use Rattle.lang_tokens.specs.Places.{placed_of}
use Rattle.lang_tokens.specs.LineFaults.{marks, IsLineWithin}
use Rattle.lang_tokens.proofs.JoinedLaws.{if_ok}
use Rattle.lang_rows.specs.RowMachine.{row_limits, Ends}
use Rattle.lang_rows.specs.Views.{state_of}
use Rattle.lang_rows.proofs.StateLaws.{rows_found, rows_fault}
use Rattle.lang_rows.proofs.rows.line_rows.Goals as goal

pub returns-in_err-reader-clause-fault : goal.returns-in_err-reader-clause-fault
returns-in_err-reader-clause-fault c =
    let p = err_from_is_err_and c.from_residual.result c.from_residual.ensures.1 in
    rw (p.1, p.2) (rows_fault c.args.strict (map (placed_of c.args.line) c.args.tokens.now) _ c.requires c.in_err-reader.ensures)

pub returns-clause-ok : goal.returns-clause-ok
returns-clause-ok c =
    let ts = map (placed_of c.args.line) c.args.tokens.now in
    let reader = c.in_ok-reader.reader in
    if_ok (λ v. Ends (state_of reader) v.items) (λ v. IsLineWithin (AreRows c.args.strict) row_limits (marks ts) v.items) c.finished.result
    (λ v h. rows_found c.args.strict (state_of reader) ts v.items c.requires c.in_ok-reader.ensures h) c.finished.ensures.ok
