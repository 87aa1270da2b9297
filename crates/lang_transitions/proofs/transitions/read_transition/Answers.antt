use Rattle.std.proofs.Common.{◌∙◌, sym, arith}
use Rattle.std.proofs.lemmas.Result.{err_from_is_err_and}
use Rattle.lang_tokens.proofs.Running.{run_rest, run_ended, fails, goes_on}
use Rattle.lang_transitions.specs.Views.{transition, state_of}
use Rattle.lang_transitions.proofs.transitions.read_transition.Goals as goal

pub returns-in_err-reader : goal.returns-in_err-reader
returns-in_err-reader c =
    let p = err_from_is_err_and c.from_residual.result c.from_residual.ensures.1 in
    let so_far = sym (run_rest (transition c.args.strict) c.args.line (state_of c.loop-token.reader) c.args.tokens.now c.loop-token.token-index _ c.loop-token-test.true) ∙ c.loop-token.invariant.so_far in
    rw (p.1, p.2) (fails (transition c.args.strict) c.args.line _ _ _ _ _ c.in_err-reader.ensures.next so_far)

pub loop-token-preserved : goal.loop-token-preserved
loop-token-preserved c =
    let so_far = sym (run_rest (transition c.args.strict) c.args.line (state_of c.loop-token.reader) c.args.tokens.now c.loop-token.token-index _ c.loop-token-test.true) ∙ c.loop-token.invariant.so_far in
    record { few = c.in_ok-reader.ensures.few; so_far = goes_on (transition c.args.strict) c.args.line _ _ _ _ _ c.in_ok-reader.ensures.next so_far }

pub returns : goal.returns
returns c = sym c.loop-token.invariant.so_far ∙ run_ended (transition c.args.strict) c.args.line (state_of c.loop-token.reader) c.args.tokens.now c.loop-token.token-index (omega arith)
