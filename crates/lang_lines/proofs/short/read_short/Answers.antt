use Rattle.std.proofs.Common.{◌∙◌, sym, arith}
use Rattle.std.proofs.lemmas.Result.{err_from_is_err_and}
use Rattle.lang_tokens.proofs.Running.{run_rest, run_ended, fails, goes_on}
use Rattle.lang_lines.specs.ShortMachine.{short_line}
use Rattle.lang_lines.specs.Views.{place_of}
use Rattle.lang_lines.proofs.short.read_short.Goals as goal

pub returns-in_err-place : goal.returns-in_err-place
returns-in_err-place c =
    let p = err_from_is_err_and c.from_residual.result c.from_residual.ensures.1 in
    let so_far = sym (run_rest (short_line c.args.word) c.args.line (place_of c.loop-token.place) c.args.tokens.now c.loop-token.token-index _ c.loop-token-test.true) ∙ c.loop-token.invariant in
    rw (p.1, p.2) (fails (short_line c.args.word) c.args.line _ _ _ _ _ c.in_err-place.ensures so_far)

pub loop-token-preserved : goal.loop-token-preserved
loop-token-preserved c =
    let so_far = sym (run_rest (short_line c.args.word) c.args.line (place_of c.loop-token.place) c.args.tokens.now c.loop-token.token-index _ c.loop-token-test.true) ∙ c.loop-token.invariant in
    goes_on (short_line c.args.word) c.args.line _ _ _ _ _ c.in_ok-place.ensures so_far

pub returns : goal.returns
returns c = sym c.loop-token.invariant ∙ run_ended (short_line c.args.word) c.args.line (place_of c.loop-token.place) c.args.tokens.now c.loop-token.token-index (omega arith)
