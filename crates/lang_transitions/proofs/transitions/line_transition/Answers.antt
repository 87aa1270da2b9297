use Rattle.std.proofs.Common.{map}
use Rattle.std.proofs.lemmas.Result.{err_from_is_err_and}
use Rattle.lang_tokens.specs.Places.{placed_of}
use Rattle.lang_tokens.specs.LineFaults.{marks, IsLineWithin}
use Rattle.lang_tokens.proofs.JoinedLaws.{if_ok}
use Rattle.lang_rows.specs.RowMachine.{Ends}
use Rattle.lang_transitions.specs.TransitionMachine.{IsTransition, transition_limits, Says}
use Rattle.lang_transitions.specs.Views.{ActsEnd, state_of}
use Rattle.lang_transitions.proofs.TransitionLine.{found, fault}
use Rattle.lang_transitions.proofs.transitions.line_transition.Goals as goal

pub returns-in_err-reader-clause-fault : goal.returns-in_err-reader-clause-fault
returns-in_err-reader-clause-fault c =
    let p = err_from_is_err_and c.from_residual.result c.from_residual.ensures.1 in
    rw (p.1, p.2) (fault c.args.strict (map (placed_of c.args.line) c.args.tokens.now) _ c.requires c.in_err-reader.ensures)

pub returns-clause-ok : goal.returns-clause-ok
returns-clause-ok c =
    let ts = map (placed_of c.args.line) c.args.tokens.now in
    let reader = c.in_ok-reader.reader in
    if_ok (Says Ends ActsEnd (state_of reader)) (IsLineWithin (IsTransition c.args.strict) transition_limits (marks ts)) c.finished.result
    (λ t h. found c.args.strict (state_of reader) ts t c.requires c.in_ok-reader.ensures h) c.finished.ensures.ok
