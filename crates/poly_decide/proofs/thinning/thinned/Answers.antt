use Rattle.std.proofs.Common.{refl}
use Rattle.poly_decide.proofs.PruneLemmas.{thinned_same}
use Rattle.poly_decide.proofs.thinning.thinned.Goals as goal

pub returns-then-rows-le-MANY : goal.returns-then-rows-le-MANY
returns-then-rows-le-MANY c = record { same_width = refl; thinned = thinned_same c.args.system.width c.args.system.rows }
