use Rattle.std.proofs.lemmas.Result.{err_from_is_err_and}
use Rattle.run_text.specs.States.{later}
use Rattle.run_text.proofs.StateLemmas.{gap_goes}
use Rattle.run_text.proofs.states.first_gap_line.Goals as goal

pub returns-in_err-gap : goal.returns-in_err-gap
returns-in_err-gap c =
    let p = err_from_is_err_and c.from_residual.result c.from_residual.ensures.1 in rw (p.1, p.2) (c.in_err-gap.ensures.fault (later c.args.whole))

pub returns : goal.returns
returns c =
    let gap = c.in_ok-gap.ensures.ok in
    gap_goes c.args.whole _ c.args.line.now c.requires (record { positive = gap.1; den = gap.2; start_loc = gap.3 }) gap.0
