use Rattle.std.proofs.Common.{◌≡◌, ◌+◌, ◌<◌, ◌∙◌, Err, length, ap, rules, sym, subst}
use Rattle.fm_eliminate.specs.declared.RowFault.TheVariants.{Passes}
use Rattle.run_specs.specs.Automaton.{width}
use Rattle.sample_succ.proofs.PartLemmas.{jump_part, jump_part_passes}
use Rattle.sample_succ.proofs.gap_parts.after_jump.Goals as goal

pub jump_succ-requires-clause-known : goal.jump_succ-requires-clause-known
jump_succ-requires-clause-known c = subst (λ b. c.args.e < length b.transitions) (sym c.automaton_of-a.ensures.value) c.requires.known

pub jump_succ-requires-clause-wide : goal.jump_succ-requires-clause-wide
jump_succ-requires-clause-wide c = c.requires.wide ∙ ap (λ b. width b + 1) (sym c.automaton_of-a.ensures.value)

pub returns-in_err-after-clause-passes : goal.returns-in_err-after-clause-passes
returns-in_err-after-clause-passes c e plain h =
    let same : c.in_err-after.field-0.0 ≡ Passes = search rules in
    jump_part_passes c.automaton_of-a.result.now c.args.key.now.automaton c.automaton_of-a.ensures.value c.args.before.now c.args.e plain h (c.in_err-after.ensures.passes (ap (λ f. Err f) same))

pub returns-clause-ok : goal.returns-clause-ok
returns-clause-ok c plain h =
    jump_part c.automaton_of-a.result.now c.args.key.now.automaton c.automaton_of-a.ensures.value c.args.before.now c.args.e c.in_ok-after.after plain h
    c.in_ok-after.ensures.wide c.in_ok-after.ensures.exact c.in_ok-after.ensures.plain
