use Rattle.std.proofs.Common.{◌≡◌, ◌↔◌, ◌+◌, ◌*◌, ◌++◌, ◌∷◌, [], ap, arith, sym, subst, length, ◌-ℤ◌}
use Rattle.poly_specs.specs.Rows.{over, AllHold, AllWide}
use Rattle.std.proofs.lemmas.Grind.{common_steps}
use Rattle.run_specs.proofs.StageLemmas.{leg_exact}
use Rattle.run_specs.proofs.StageWidths.{location_is}
use Rattle.run_specs.specs.Automaton.{width, location_at}
use Rattle.run_specs.specs.Runs.{IsLeg}
use Rattle.run_specs.specs.Stages.{leg_point, leg_rows}
use Rattle.time_succ.proofs.LegLemmas.{wide_rows}
use Rattle.time_succ.proofs.leg_system.Goals as goal

pub of_rows-requires-clause-wide : goal.of_rows-requires-clause-wide
of_rows-requires-clause-wide c =
    let m = ap length c.vars-m.ensures.value in
    let wide : AllWide (width c.args.a.now + 1) c.args.state.now.rows = subst (λ w. AllWide w c.args.state.now.rows) c.requires.wide c.rows.ensures.kept.wide in
    wide_rows c.args.a.now c.args.loc c.args.state.now.rows c.add_flow.new.rows.items _
    (location_is c.args.a.now c.vars-m.ensures.kept c.args.loc c.requires.known) wide (grind (arith, common_steps)) (omega (arith, m))

pub returns-clause-exact : goal.returns-clause-exact
returns-clause-exact c d q elapsed t p lq lp =
    let wide : AllWide (width c.args.a.now + 1) c.args.state.now.rows = subst (λ w. AllWide w c.args.state.now.rows) c.requires.wide c.rows.ensures.kept.wide in
    let same : c.of_rows.result.rows ≡ leg_rows c.args.a.now c.args.loc c.args.state.now.rows = grind (arith, common_steps) in
    subst (λ rows. AllHold rows (leg_point d q elapsed t p)
    ↔ AllHold c.args.state.now.rows (over d (p ++ (elapsed -ℤ t) ∷ [])) × IsLeg (location_at c.args.a.now c.args.loc) d p t q) (sym same)
    (leg_exact c.args.a.now c.args.loc c.args.state.now.rows d q elapsed t p (location_is c.args.a.now c.vars-m.ensures.kept c.args.loc c.requires.known) wide lq lp)
