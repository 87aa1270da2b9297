use Rattle.std.proofs.Common.{subst}
use Rattle.poly_specs.specs.Systems.{System}
use Rattle.point_hints.specs.Showing.{IsShown}
use Rattle.poly_decide.proofs.OutsideLemmas.{shown_outside}
use Rattle.poly_decide.proofs.outside.shown_outside.Goals as goal

pub returns : goal.returns
returns c =
    shown_outside c.args.width c.args.rows.now c.args.row.now c.in_ok-shown.shown
    (subst (λ (s : System). IsShown s c.in_ok-shown.shown) c.in_ok-system.ensures c.in_ok-shown.ensures)
