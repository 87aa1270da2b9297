use Rattle.std.proofs.Common.{◌≡◌, ◌↔◌, ◌+◌, ℕ, ℤ, List, length, pos, ◌<ℤ◌, ap, sym, subst, ◌∙◌}
use Rattle.std.proofs.lemmas.Result.{IfOk-weaker}
use Rattle.poly_specs.specs.Bits.{SomePasses}
use Rattle.poly_specs.specs.Elimination.{formed_each}
use Rattle.poly_specs.specs.Lists.{IsAmong}
use Rattle.poly_specs.specs.Rows.{Point, over, AllHold, AllWide}
use Rattle.poly_specs.specs.Systems.{System}
use Rattle.run_specs.proofs.EndLemmas.{jump_ends}
use Rattle.run_specs.specs.Automaton.{width}
use Rattle.run_specs.specs.Ends.{SomeJumpEnds}
use Rattle.run_specs.specs.Stages.{Stage, rows_after, jump_rows, jump_stage}
use Rattle.stage_rows.specs.Projecting.{projecting}
use Rattle.jump_succ.proofs.JumpLemmas.{relation_wide, target_wide, stage_is}
use Rattle.jump_succ.proofs.jump_succ.Goals as goal

module _ (c : goal.After-drop-system-inside) where
  stage : projecting (length c.vars.result.now + 1) c.in_ok-system.system ≡ jump_stage c.args.a.now c.args.trans c.args.state.now.rows
  stage = stage_is c.args.a.now c.args.trans c.args.state.now.rows c.in_ok-system.system (length c.vars.result.now + 1) c.in_ok-system.ensures.rows
      (ap (λ vars. length vars + 1) c.vars.ensures.value)

  -- what is said of the stage of the projection is said of the jump's
  there : (P : Stage → Type 0) → P (projecting (length c.vars.result.now + 1) c.in_ok-system.system) → P (jump_stage c.args.a.now c.args.trans c.args.state.now.rows)
  there P h = subst P stage h

pub returns-clause-exact : goal.returns-clause-exact
returns-clause-exact c =
    let wide : AllWide (width c.args.a.now + 1) c.args.state.now.rows = subst (λ w. AllWide w c.args.state.now.rows) c.requires.wide c.width-first.ensures.kept.wide in
    IfOk-weaker c.project.result _ _
    (λ s same d end h l.
    let at = there c (λ z. AllHold s.rows (over d end) ↔ AllHold (rows_after z) (over d end)) (same (over d end) h (l ∙ sym (ap (λ vars. length vars + 1) c.vars.ensures.value))) in
    let ends = jump_ends c.args.a.now c.args.trans c.args.state.now.rows d end (relation_wide c.args.a.now c.args.trans c.vars.ensures.kept c.requires.known) (target_wide c.args.a.now c.args.trans c.vars.ensures.kept c.requires.known) wide h l in
    (λ all. ends.0 (at.0 all), λ some. at.1 (ends.1 some)))
    c.project.ensures.same

pub returns-clause-plain : goal.returns-clause-plain
returns-clause-plain c =
    IfOk-weaker c.project.result _ _ (λ s. there c (λ z. IsAmong s.rows (rows_after z))) c.project.ensures.plain

pub returns-clause-passes : goal.returns-clause-passes
returns-clause-passes c e = there c (λ z. SomePasses (formed_each z.columns z.rows)) (c.project.ensures.passes e)
