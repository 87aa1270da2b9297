use Rattle.std.proofs.Common.{◌≡◌, ◌+◌, ◌∙◌, Err, ap, rules, sym, subst}
use Rattle.fm_eliminate.specs.declared.RowFault.TheVariants.{Passes}
use Rattle.poly_specs.specs.Rows.{AllWide}
use Rattle.run_specs.specs.Automaton.{width}
use Rattle.run_specs.specs.Stages.{jump_stage}
use Rattle.sample_succ.specs.Plain.{IsLeftInTime}
use Rattle.sample_succ.proofs.VisitLemmas.{jump_away, jump_passes, jump_none, jump_some}
use Rattle.sample_succ.proofs.gap_walk.jumped.Goals as goal

pub returns-then-source_of-node-clause-ok : goal.returns-then-source_of-node-clause-ok
returns-then-source_of-node-clause-ok c =
    let key = c.args.key.now in
    let wide : AllWide (width key.automaton + 1) c.args.after.now.rows = subst (λ n. AllWide n c.args.after.now.rows) c.requires.after.wide c.width.ensures.kept.wide in
    jump_away key c.automaton_of.ensures.limits c.automaton_of.ensures.kept c.args.node.now c.requires.node c.args.after.now c.requires.after wide c.args.e c.requires.known c.requires.room
    (λ e. c.if-source_of-node.true (c.source_of.ensures ∙ e))

pub returns-in_err-before-clause-passes : goal.returns-in_err-before-clause-passes
returns-in_err-before-clause-passes c e =
    let key = c.args.key.now in
    let same : c.in_err-before.field-0.0 ≡ Passes = search rules in
    let wide : AllWide (width key.automaton + 1) c.args.after.now.rows = subst (λ n. AllWide n c.args.after.now.rows) c.requires.after.wide c.width.ensures.kept.wide in
    jump_passes key c.automaton_of.ensures.limits c.automaton_of.ensures.kept c.args.node.now c.requires.node c.args.after.now c.requires.after wide c.args.e c.requires.known c.requires.room
    (sym c.source_of.ensures ∙ c.if-source_of-node.false) (c.in_err-before.ensures.passes (ap (λ f. Err f) same))

pub returns-in-None-clause-ok : goal.returns-in-None-clause-ok
returns-in-None-clause-ok c =
    let key = c.args.key.now in
    let wide : AllWide (width key.automaton + 1) c.args.after.now.rows = subst (λ n. AllWide n c.args.after.now.rows) c.requires.after.wide c.width.ensures.kept.wide in
    jump_none key c.automaton_of.ensures.limits c.automaton_of.ensures.kept c.args.node.now c.requires.node c.args.after.now c.requires.after wide c.args.e c.requires.known c.requires.room
    (sym c.source_of.ensures ∙ c.if-source_of-node.false) (subst (IsLeftInTime key (jump_stage key.automaton c.args.e c.args.after.now.rows)) c.in-None.is c.in_ok-before.ensures.ok)

pub returns-in_ok-next-in-Some-clause-ok : goal.returns-in_ok-next-in-Some-clause-ok
returns-in_ok-next-in-Some-clause-ok c =
    let key = c.args.key.now in
    let wide : AllWide (width key.automaton + 1) c.args.after.now.rows = subst (λ n. AllWide n c.args.after.now.rows) c.requires.after.wide c.width.ensures.kept.wide in
    let x = c.in_ok-next-in-Some.ensures in
    jump_some key c.automaton_of.ensures.limits c.automaton_of.ensures.kept c.args.node.now c.requires.node c.args.after.now c.requires.after wide c.args.e c.requires.known c.requires.room
    (sym c.source_of.ensures ∙ c.if-source_of-node.false) c.in-Some.before c.in_ok-next-in-Some.next
    (subst (IsLeftInTime key (jump_stage key.automaton c.args.e c.args.after.now.rows)) c.in-Some.is c.in_ok-before.ensures.ok) x.parent x.path x.loc x.mark x.before
