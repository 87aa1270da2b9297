use Rattle.std.proofs.Common.{ℕ, subst}
use Rattle.poly_specs.specs.Rows.{AllWide}
use Rattle.run_specs.proofs.StageWidths.{location_is, transition_is}
use Rattle.run_specs.specs.Automaton.{transition_at}
use Rattle.gap_runs.proofs.InsideLemmas as inside
use Rattle.gap_runs.proofs.traces.jump_back.Goals as goal

pub returns-clause-back : goal.returns-clause-back
returns-clause-back c =
    let a = c.args.a.now in
    let wide = subst (λ (w : ℕ). AllWide w c.args.state.now.rows) c.requires.wide c.width.ensures.kept.wide in
    let is = transition_is a c.vars.ensures.kept c.args.trans c.requires.known in
    inside.jump_back a c.args.trans c.args.state.now.rows c.args.back c.in_ok-more.more is.relation
    (location_is a c.vars.ensures.kept (transition_at a c.args.trans).target is.target).invariant wide c.requires.back c.in_ok-more.ensures.ok

pub returns-clause-inside : goal.returns-clause-inside
returns-clause-inside c =
    let a = c.args.a.now in
    let wide = subst (λ (w : ℕ). AllWide w c.args.state.now.rows) c.requires.wide c.width.ensures.kept.wide in
    let is = transition_is a c.vars.ensures.kept c.args.trans c.requires.known in
    inside.jump_inside a c.args.trans c.args.state.now.rows c.args.back c.in_ok-more.more is.relation
    (location_is a c.vars.ensures.kept (transition_at a c.args.trans).target is.target).invariant wide c.requires.back c.in_ok-more.ensures.ok
