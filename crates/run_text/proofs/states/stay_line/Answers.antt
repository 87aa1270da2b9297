use Rattle.std.proofs.Common.{sym, subst}
use Rattle.std.proofs.lemmas.Result.{err_from_is_err_and}
use Rattle.std.specs.Prelude.{Ok}
use Rattle.run_text.specs.States.{later, Goes}
use Rattle.run_text.specs.declared.states.State.TheVariants.{Placed, Staying}
use Rattle.run_text.proofs.LineLemmas.{fits_stays}
use Rattle.run_text.proofs.StateLemmas.{stay_goes}
use Rattle.run_text.proofs.states.stay_line.Goals as goal

pub returns-in_err-time : goal.returns-in_err-time
returns-in_err-time c =
    let p = err_from_is_err_and c.from_residual.result c.from_residual.ensures.1 in rw (p.1, p.2) (c.in_err-time.ensures.fault (later c.args.part.whole))

pub returns : goal.returns
returns c =
    let time = c.in_ok-time.ensures.ok in
    subst (λ t. Goes (Placed c.args.part) c.args.line.now (Ok (Staying c.args.part t))) (sym (fits_stays c.in_ok-time.time time.1))
    (stay_goes c.args.part c.in_ok-time.time c.args.line.now c.requires time.1 time.0)
