use Rattle.std.proofs.Common.{◌≡◌, ◌+◌, Err, ap, rules, subst}
use Rattle.fm_eliminate.specs.declared.RowFault.TheVariants.{Passes}
use Rattle.poly_specs.specs.Rows.{AllWide}
use Rattle.run_specs.specs.Automaton.{width}
use Rattle.run_specs.specs.Stages.{leg_stage}
use Rattle.sample_succ.specs.Plain.{IsLeft}
use Rattle.sample_succ.proofs.VisitLemmas.{known, leg_passes, leg_after, leg_none}
use Rattle.sample_succ.proofs.gap_walk.visit.Goals as goal

pub leg-requires-clause-known : goal.leg-requires-clause-known
leg-requires-clause-known c = known c.args.key.now c.automaton_of.ensures.limits c.automaton_of.ensures.kept c.args.node.now c.requires.node

pub leg-requires-clause-wide : goal.leg-requires-clause-wide
leg-requires-clause-wide c = c.requires.node.at.wide

pub returns-in_err-after-clause-passes : goal.returns-in_err-after-clause-passes
returns-in_err-after-clause-passes c e =
    let same : c.in_err-after.field-0.0 ≡ Passes = search rules in
    leg_passes c.args.key.now c.automaton_of.ensures.limits c.automaton_of.ensures.kept c.args.node.now c.requires.node (c.in_err-after.ensures.passes (ap (λ f. Err f) same))

pub returns-in-None-clause-ok : goal.returns-in-None-clause-ok
returns-in-None-clause-ok c =
    let key = c.args.key.now in
    let n = c.args.node.now in
    let wide : AllWide (width key.automaton + 1) n.before.rows = subst (λ w. AllWide w n.before.rows) c.requires.node.at.wide c.width.ensures.kept.wide in
    leg_none key c.automaton_of.ensures.limits c.automaton_of.ensures.kept n c.requires.node c.args.found.now.items wide c.requires.wide c.requires.found
    (subst (IsLeft (leg_stage key.automaton n.loc n.before.rows)) c.in-None.is c.in_ok-after.ensures.ok)

pub add_item-requires-clause-after : goal.add_item-requires-clause-after
add_item-requires-clause-after c =
    let key = c.args.key.now in
    let n = c.args.node.now in
    let wide : AllWide (width key.automaton + 1) n.before.rows = subst (λ w. AllWide w n.before.rows) c.requires.node.at.wide c.width.ensures.kept.wide in
    leg_after key c.automaton_of.ensures.limits c.automaton_of.ensures.kept n c.requires.node c.in-Some.after wide
    (subst (IsLeft (leg_stage key.automaton n.loc n.before.rows)) c.in-Some.is c.in_ok-after.ensures.ok)

pub returns-in_ok-add_item-in-Some-clause-ok : goal.returns-in_ok-add_item-in-Some-clause-ok
returns-in_ok-add_item-in-Some-clause-ok c =
    let key = c.args.key.now in
    let n = c.args.node.now in
    let wide : AllWide (width key.automaton + 1) n.before.rows = subst (λ w. AllWide w n.before.rows) c.requires.node.at.wide c.width.ensures.kept.wide in
    let after = leg_after key c.automaton_of.ensures.limits c.automaton_of.ensures.kept n c.requires.node c.in-Some.after wide
    (subst (IsLeft (leg_stage key.automaton n.loc n.before.rows)) c.in-Some.is c.in_ok-after.ensures.ok) in
    (c.in_ok-add_item-in-Some.ensures.ok, after)
