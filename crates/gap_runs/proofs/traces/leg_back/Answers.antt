use Rattle.std.proofs.Common.{◌≡◌, ℕ, Err, ap, rules, subst}
use Rattle.fm_eliminate.specs.declared.RowFault.TheVariants.{Passes}
use Rattle.poly_specs.specs.Rows.{AllWide}
use Rattle.run_specs.proofs.StageWidths.{location_is}
use Rattle.gap_runs.proofs.InsideLemmas as inside
use Rattle.gap_runs.proofs.traces.leg_back.Goals as goal

pub returns-clause-back : goal.returns-clause-back
returns-clause-back c =
    let wide = subst (λ (w : ℕ). AllWide w c.args.state.now.rows) c.requires.wide c.width.ensures.kept.wide in
    inside.leg_back c.args.a.now c.args.loc c.args.state.now.rows c.args.back c.in_ok-more.more (location_is c.args.a.now c.vars.ensures.kept c.args.loc c.requires.known) wide
    c.requires.back c.in_ok-more.ensures.ok

pub returns-clause-inside : goal.returns-clause-inside
returns-clause-inside c =
    let wide = subst (λ (w : ℕ). AllWide w c.args.state.now.rows) c.requires.wide c.width.ensures.kept.wide in
    inside.leg_inside c.args.a.now c.args.loc c.args.state.now.rows c.args.back c.in_ok-more.more (location_is c.args.a.now c.vars.ensures.kept c.args.loc c.requires.known) wide
    c.requires.back c.in_ok-more.ensures.ok

pub returns-in_err-more-clause-passes : goal.returns-in_err-more-clause-passes
returns-in_err-more-clause-passes c e =
    let same : c.in_err-more.field-0.0 ≡ Passes = search rules in
    c.in_err-more.ensures.passes (ap (λ f. Err f) same)
