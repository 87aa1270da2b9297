use Rattle.std.proofs.Common.{◌≡◌, ◌<◌, ◌∙◌, Err, length, ap, rules, sym, subst}
use Rattle.fm_eliminate.specs.declared.RowFault.TheVariants.{Passes}
use Rattle.run_specs.specs.Passes.{Fits}
use Rattle.sample_succ.proofs.PartLemmas.{stages_are, stages_pass}
use Rattle.sample_succ.proofs.gap_parts.stages.Goals as goal

pub parts-requires-clause-known : goal.parts-requires-clause-known
parts-requires-clause-known c =
    subst (λ l. l < length c.args.key.now.automaton.locations) (sym (c.loc-loc.ensures ∙ ap (λ s. s.loc) c.parent_of-state.ensures.value)) c.parent_of-state.ensures.kept.loc

pub parts-requires-clause-fits : goal.parts-requires-clause-fits
parts-requires-clause-fits c =
    subst (λ l. Fits c.args.key.now.automaton l c.args.path.now) (sym (c.loc-loc.ensures ∙ ap (λ s. s.loc) c.parent_of-state.ensures.value)) c.requires.may_take.fits

pub parts-requires-clause-wide : goal.parts-requires-clause-wide
parts-requires-clause-wide c = ap (λ s. s.width) c.in_ok-start.ensures

pub returns-in_err-systems-clause-passes : goal.returns-in_err-systems-clause-passes
returns-in_err-systems-clause-passes c e =
    let same : c.in_err-systems.field-0.0 ≡ Passes = search rules in
    stages_pass c.args.key.now c.args.parent c.args.path.now c.loc-loc.result c.in_ok-start.start (c.loc-loc.ensures ∙ ap (λ s. s.loc) c.parent_of-state.ensures.value) c.in_ok-start.ensures
    (c.in_err-systems.ensures.passes (ap (λ f. Err f) same))

pub returns-clause-ok : goal.returns-clause-ok
returns-clause-ok c =
    stages_are c.args.key.now c.args.parent c.args.path.now c.loc-loc.result c.in_ok-start.start c.in_ok-systems.systems.items c.put_first.new.systems.items
    (c.loc-loc.ensures ∙ ap (λ s. s.loc) c.parent_of-state.ensures.value) c.in_ok-start.ensures c.in_ok-systems.ensures.ok c.in_ok-put_first.ensures
