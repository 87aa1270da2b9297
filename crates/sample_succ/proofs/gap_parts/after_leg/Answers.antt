use Rattle.std.proofs.Common.{◌≡◌, ◌+◌, ◌<◌, ◌∙◌, Err, length, ap, rules, sym, subst}
use Rattle.fm_eliminate.specs.declared.RowFault.TheVariants.{Passes}
use Rattle.run_specs.specs.Automaton.{width}
use Rattle.sample_succ.proofs.PartLemmas.{leg_part, leg_part_passes}
use Rattle.sample_succ.proofs.gap_parts.after_leg.Goals as goal

pub time_succ-requires-clause-known : goal.time_succ-requires-clause-known
time_succ-requires-clause-known c = subst (λ b. c.args.loc < length b.locations) (sym c.automaton_of-a.ensures.value) c.requires.known

pub time_succ-requires-clause-wide : goal.time_succ-requires-clause-wide
time_succ-requires-clause-wide c = c.requires.wide ∙ ap (λ b. width b + 1) (sym c.automaton_of-a.ensures.value)

pub returns-in_err-after-clause-passes : goal.returns-in_err-after-clause-passes
returns-in_err-after-clause-passes c e plain h =
    let same : c.in_err-after.field-0.0 ≡ Passes = search rules in
    leg_part_passes c.automaton_of-a.result.now c.args.key.now.automaton c.automaton_of-a.ensures.value c.args.before.now c.args.loc plain h (c.in_err-after.ensures.passes (ap (λ f. Err f) same))

pub returns-clause-ok : goal.returns-clause-ok
returns-clause-ok c plain h =
    leg_part c.automaton_of-a.result.now c.args.key.now.automaton c.automaton_of-a.ensures.value c.args.before.now c.args.loc c.in_ok-after.after plain h
    c.in_ok-after.ensures.wide c.in_ok-after.ensures.exact c.in_ok-after.ensures.plain
