use Rattle.run_check.proofs.NearLemmas.{sum_stops, difference_stops, both_fit}
use Rattle.run_check.proofs.ends.band.Goals as goal

pub returns-in_err-most : goal.returns-in_err-most
returns-in_err-most c = rw c.from_residual.ensures (sum_stops c.args.value.now c.args.tolerance.now c.in_err-most.ensures)

pub returns-in_err-least : goal.returns-in_err-least
returns-in_err-least c = rw c.from_residual-in_err-least.ensures (difference_stops c.args.value.now c.args.tolerance.now c.in_err-least.ensures)

pub returns : goal.returns
returns c = (
  both_fit c.args.value.now c.args.tolerance.now c.in_ok-most.ensures.0 c.in_ok-least.ensures.0,
  c.in_ok-least.ensures.1,
  c.in_ok-most.ensures.1,
)
