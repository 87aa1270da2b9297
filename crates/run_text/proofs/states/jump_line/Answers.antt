use Rattle.std.proofs.lemmas.Result.{err_from_is_err_and}
use Rattle.run_text.specs.States.{later}
use Rattle.run_text.proofs.StateLemmas.{jump_goes, jump_fault}
use Rattle.run_text.proofs.states.jump_line.Goals as goal

pub returns-in_err-trans : goal.returns-in_err-trans
returns-in_err-trans c =
    let p = err_from_is_err_and c.from_residual.result c.from_residual.ensures.1 in
    rw (p.1, p.2) (jump_fault _ (later c.args.part.whole) c.args.line.now c.requires.word.0 c.requires.word.1 c.in_err-trans.ensures.fault)

pub returns : goal.returns
returns c =
    let jump = c.in_ok-trans.ensures.ok in
    jump_goes c.args.part c.args.leg _ c.args.line.now c.requires.part c.requires.leg jump.1 jump.0
