use Rattle.std.proofs.Common.{◌≡◌, ◌↔◌, ◌+◌, ◌*◌, ◌++◌, ◌∷◌, [], ap, arith, sym, subst, length}
use Rattle.std.proofs.lemmas.Grind.{common_steps}
use Rattle.poly_specs.specs.Rows.{over, AllHold, AllWide}
use Rattle.run_specs.proofs.StageLemmas.{jump_exact}
use Rattle.run_specs.specs.Automaton.{width}
use Rattle.run_specs.specs.Runs.{IsJump}
use Rattle.run_specs.specs.Stages.{jump_point, jump_rows}
use Rattle.jump_succ.proofs.JumpLemmas.{relation_wide, target_wide, wide_rows}
use Rattle.jump_succ.proofs.jump_system.Goals as goal

pub of_rows-requires-clause-wide : goal.of_rows-requires-clause-wide
of_rows-requires-clause-wide c =
    let m = ap length c.vars-m.ensures.value in
    let wide : AllWide (width c.args.a.now + 1) c.args.state.now.rows = subst (λ w. AllWide w c.args.state.now.rows) c.requires.wide c.rows.ensures.kept.wide in
    wide_rows c.args.a.now c.args.trans c.vars-m.ensures.kept c.requires.known c.args.state.now.rows c.add_invariant.new.rows.items _
    wide (grind (arith, common_steps)) (omega (arith, m))

pub returns-clause-exact : goal.returns-clause-exact
returns-clause-exact c d q elapsed p lq lp =
    let wide : AllWide (width c.args.a.now + 1) c.args.state.now.rows = subst (λ w. AllWide w c.args.state.now.rows) c.requires.wide c.rows.ensures.kept.wide in
    let same : c.of_rows.result.rows ≡ jump_rows c.args.a.now c.args.trans c.args.state.now.rows = grind (arith, common_steps) in
    subst (λ rows. AllHold rows (jump_point d q elapsed p) ↔ AllHold c.args.state.now.rows (over d (p ++ elapsed ∷ [])) × IsJump c.args.a.now c.args.trans d p q) (sym same)
    (jump_exact c.args.a.now c.args.trans c.args.state.now.rows d q elapsed p
    (relation_wide c.args.a.now c.args.trans c.vars-m.ensures.kept c.requires.known) (target_wide c.args.a.now c.args.trans c.vars-m.ensures.kept c.requires.known) wide lq lp)
