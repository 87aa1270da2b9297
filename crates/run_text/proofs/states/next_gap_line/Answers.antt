use Rattle.std.proofs.Common.{sym}
use Rattle.std.proofs.lemmas.Bool.{ltb-true}
use Rattle.std.proofs.lemmas.Result.{err_from_is_err_and}
use Rattle.run_text.specs.States.{later}
use Rattle.run_text.proofs.StateLemmas.{next_gap_goes, gap_fault}
use Rattle.run_text.proofs.states.next_gap_line.Goals as goal

pub returns-in_err-gap : goal.returns-in_err-gap
returns-in_err-gap c =
    let p = err_from_is_err_and c.from_residual.result c.from_residual.ensures.1 in
    rw (p.1, p.2) (gap_fault _ (later c.args.part.whole) c.args.line.now c.requires.word (sym c.if-not-has_later.ensures) c.in_err-gap.ensures.fault)

pub returns : goal.returns
returns c =
    let gap = c.in_ok-gap.ensures.ok in
    let whole = c.in_ok-whole.ensures.ok in
    next_gap_goes c.args.part c.in_ok-whole.whole c.args.leg c.in_ok-gap.gap c.args.line.now c.requires.part c.requires.leg
    (record { positive = gap.1; den = gap.2; start_loc = gap.3 }) gap.0 whole.0 whole.1 (ltb-true 0 _ (sym c.if-not-has_later.ensures))
