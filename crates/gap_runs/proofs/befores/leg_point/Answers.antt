use Rattle.std.proofs.Common.{arith, ap, subst}
use Rattle.std.specs.Prelude.{IfOk}
use Rattle.poly_specs.specs.Systems.{System}
use Rattle.column_pick.specs.Picked.{numbers_of, IsPickedPoint}
use Rattle.gap_runs.specs.Befores.{LeavingPasses}
use Rattle.gap_runs.proofs.BeginLemmas.{leg_begins}
use Rattle.gap_runs.proofs.befores.leg_point.Goals as goal

pub picked_after-requires-clause-begins : goal.picked_after-requires-clause-begins
picked_after-requires-clause-begins c =
    leg_begins c.args.a.now c.args.loc c.args.state.now.rows c.in_ok-system.system c.args.after.now c.in_ok-system.ensures.rows c.in_ok-system.ensures.exact
    c.den.ensures.kept.positive c.requires.sized c.requires.reached

pub picked_after-requires-clause-fits : goal.picked_after-requires-clause-fits
picked_after-requires-clause-fits c =
    let w = ap (λ (t : System). t.width) c.in_ok-system.ensures.rows in
    omega (arith, w, c.requires.sized)

pub returns-clause-ok : goal.returns-clause-ok
returns-clause-ok c =
    subst (λ (t : System). IfOk c.picked_after.result (λ p. IsPickedPoint t (numbers_of c.args.after.now) p)) c.in_ok-system.ensures.rows c.picked_after.ensures.ok

pub returns-clause-passes : goal.returns-clause-passes
returns-clause-passes c e = subst (λ (t : System). LeavingPasses t c.args.after.now) c.in_ok-system.ensures.rows (c.picked_after.ensures.passes e)
