use Rattle.std.proofs.Common.{map}
use Rattle.std.proofs.lemmas.Result.{err_from_is_err_and}
use Rattle.std.specs.Prelude.{Bool}
use Rattle.lang_tokens.specs.Places.{placed_of}
use Rattle.lang_tokens.specs.LineFaults.{marks}
use Rattle.lang_tokens.proofs.JoinedLaws.{if_ok}
use Rattle.lang_lines.specs.Lines.{says, IsRead}
use Rattle.lang_lines.specs.ShortMachine.{Ends}
use Rattle.lang_lines.specs.Views.{place_of}
use Rattle.lang_lines.proofs.Readings.{stand}
use Rattle.lang_lines.proofs.ShortLaws.{short_found, short_fault}
use Rattle.lang_lines.proofs.short.line_short.Goals as goal

pub returns-in_err-place-clause-fault : goal.returns-in_err-place-clause-fault
returns-in_err-place-clause-fault c =
    let p = err_from_is_err_and c.from_residual.result c.from_residual.ensures.1 in
    let ts = map (placed_of c.args.line) c.args.tokens.now in
    rw (p.1, p.2) (λ second. short_fault c.args.word c.requires.word c.args.line ts _ second (stand c.args.line c.args.tokens.now) c.requires.literals c.in_err-place.ensures)

pub returns-clause-ok : goal.returns-clause-ok
returns-clause-ok c =
    let ts = map (placed_of c.args.line) c.args.tokens.now in
    let place = place_of c.in_ok-place.place in
    if_ok (λ s. Ends place (says s)) (λ s. (second : Bool) → IsRead second c.args.word (marks ts) (says s)) c.finished.result
    (λ s h second. short_found c.args.word c.requires.word place ts (says s) second c.requires.literals c.in_ok-place.ensures h) c.finished.ensures.ok
