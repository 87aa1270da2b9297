use Rattle.std.proofs.Common.{sym, subst}
use Rattle.poly_specs.specs.Systems.{System}
use Rattle.poly_decide.specs.Pruned.{AreUndominated}
use Rattle.poly_decide.proofs.pruning.prune.Goals as goal

pub returns-clause-undominated : goal.returns-clause-undominated
returns-clause-undominated c = subst (λ (t : System). AreUndominated t.rows) (sym c.of_rows.ensures) c.in_ok-rows.ensures.undominated
