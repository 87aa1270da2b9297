use Rattle.std.proofs.Common.{map}
use Rattle.std.proofs.lemmas.Result.{err_from_is_err_and}
use Rattle.lang_tokens.specs.Places.{placed_of}
use Rattle.lang_lines.specs.Lines.{says}
use Rattle.lang_texts.specs.Reading.{counts_of}
use Rattle.lang_texts.proofs.ReadingLemmas.{literals_behind, word_fails, body_fails, line_goes_on}
use Rattle.lang_texts.proofs.texts.read_statement.Goals as goal

pub returns-in_err-place-clause-fault : goal.returns-in_err-place-clause-fault
returns-in_err-place-clause-fault c =
    let p = err_from_is_err_and c.from_residual.result c.from_residual.ensures.1 in
    rw (p.1, p.2) (word_fails c.args.state c.args.line (placed_of c.args.line c.args.word) (map (placed_of c.args.line) c.args.behind.now) c.in_err-place.field-0.0
    c.requires c.in_err-place.ensures.fault)

pub line_body-requires-clause-literals : goal.line_body-requires-clause-literals
line_body-requires-clause-literals c =
    literals_behind c.args.line (placed_of c.args.line c.args.word) (map (placed_of c.args.line) c.args.behind.now) c.requires

pub returns-in_ok-with_line-in-Ok-clause-ok : goal.returns-in_ok-with_line-in-Ok-clause-ok
returns-in_ok-with_line-in-Ok-clause-ok c =
    let leads = c.in_ok-place.ensures.ok in
    line_goes_on c.args.state c.in_ok-with_line-in-Ok.field-0 c.args.line (placed_of c.args.line c.args.word) (map (placed_of c.args.line) c.args.behind.now)
    c.in_ok-place.place (counts_of c.in_ok-place.counts) (says c.in-Ok.said) c.requires leads.0 leads.1 c.in-Ok.ensures.ok c.in_ok-with_line-in-Ok.ensures

pub returns-in-Err-clause-fault : goal.returns-in-Err-clause-fault
returns-in-Err-clause-fault c =
    let leads = c.in_ok-place.ensures.ok in
    rw c.located.ensures (body_fails c.args.state c.args.line (placed_of c.args.line c.args.word) (map (placed_of c.args.line) c.args.behind.now)
    c.in_ok-place.place (counts_of c.in_ok-place.counts) c.in-Err.fault c.requires leads.0 leads.1 c.in-Err.ensures.fault)
