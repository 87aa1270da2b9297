use Rattle.std.proofs.Common.{List, subst}
use Rattle.std.specs.Prelude.{Any}
use Rattle.poly_specs.specs.Columns.{IsDominated}
use Rattle.poly_specs.specs.Rows.{Row}
use Rattle.poly_decide.proofs.OutsideLemmas.{dominated_entailed}
use Rattle.poly_decide.proofs.entailment.entails.Goals as goal

pub returns-then-is_dominated-clause-ok : goal.returns-then-is_dominated-clause-ok
returns-then-is_dominated-clause-ok c =
    dominated_entailed c.args.s.now.width c.args.s.now.rows c.args.row.now
    (subst (λ (rows : List Row). Any (λ other. IsDominated c.args.row.now other) rows) c.rows.ensures.value (c.is_dominated.ensures.0 c.if-is_dominated.true))
