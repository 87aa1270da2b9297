use Rattle.std.proofs.Common.{List, sym, subst}
use Rattle.poly_specs.specs.Rows.{Row}
use Rattle.poly_specs.specs.Systems.{IsLevel}
use Rattle.poly_decide.proofs.EmptinessLemmas.{level_tells}
use Rattle.poly_decide.proofs.emptiness.is_left_empty.Goals as goal

pub returns-clause-ok : goal.returns-clause-ok
returns-clause-ok c =
    level_tells c.args.s.now.width c.args.s.now.rows c.rows.result.now c.some_never_holds.result
    (subst (λ (rs : List Row). IsLevel c.args.s.now.width 0 c.args.s.now.rows rs) (sym c.rows.ensures.value) c.in_ok-left.ensures.ok.level) c.some_never_holds.ensures
