use Rattle.std.proofs.Common.{◌≡◌, ◌+◌, ◌∷◌, Err, ap, rules, sym, subst, ◌∙◌}
use Rattle.std.specs.List.{flat_map}
use Rattle.poly_specs.specs.Rows.{AllWide}
use Rattle.fm_eliminate.specs.declared.RowFault.TheVariants.{Passes}
use Rattle.run_specs.specs.Automaton.{width}
use Rattle.run_specs.specs.Stages as stages
use Rattle.run_specs.specs.Stages.{seen_rows, below}
use Rattle.sample_succ.proofs.PlainLemmas.{sums_pass, added_wide}
use Rattle.sample_succ.proofs.sampling.sample_system.Goals as goal

pub returns-in_err-rows-clause-passes : goal.returns-in_err-rows-clause-passes
returns-in_err-rows-clause-passes c e =
    let same : c.in_err-rows.field-0.0 ≡ Passes = search rules in
    sums_pass (stages.sample_stage c.args.a.now c.args.gap.now c.args.seen.now c.args.state.now.rows) (c.in_err-rows.ensures.passes (ap (λ f. Err f) same))

pub and-requires : goal.and-requires
and-requires c =
    subst (AllWide c.in_ok-system.system.width) (sym (c.as_slice.ensures.value ∙ c.in_ok-rows.ensures.ok))
    (subst (λ n. AllWide n (stages.at_most (width c.args.a.now + 1) (width c.args.a.now) c.args.gap.now ∷ stages.at_least (width c.args.a.now + 1) (width c.args.a.now) c.args.gap.now ∷ flat_map (seen_rows c.args.a.now c.args.seen.now) (below (width c.args.a.now)))) (sym (ap (λ s. s.width) c.in_ok-system.ensures ∙ c.requires.wide)) (added_wide c.args.a.now c.args.gap.now c.args.seen.now))
