use Rattle.std.proofs.Common.{◌≡◌, ◌+◌, Err, ap, arith, rules, sym, subst}
use Rattle.fm_eliminate.specs.declared.RowFault.TheVariants.{Passes}
use Rattle.poly_specs.specs.Rows.{AllWide}
use Rattle.run_specs.specs.Automaton.{width}
use Rattle.run_specs.specs.Stages.{sample_stage}
use Rattle.sample_succ.specs.Covers.{AreWide}
use Rattle.sample_succ.specs.Plain.{IsLeft}
use Rattle.sample_succ.proofs.VisitLemmas.{sample_passes, sample_none, put_walked}
use Rattle.sample_succ.proofs.gap_walk.add_item.Goals as goal

pub returns-in_err-rows-clause-passes : goal.returns-in_err-rows-clause-passes
returns-in_err-rows-clause-passes c e =
    let key = c.args.key.now in
    let same : c.in_err-rows.field-0.0 ≡ Passes = search rules in
    let wide : AllWide (width key.automaton + 1) c.args.after.now.rows = subst (λ n. AllWide n c.args.after.now.rows) c.requires.after.wide c.width.ensures.kept.wide in
    sample_passes key c.automaton_of.ensures.limits c.automaton_of.ensures.kept c.args.node.now c.requires.node c.args.after.now c.requires.after wide (c.in_err-rows.ensures.passes (ap (λ f. Err f) same))

pub returns-in-None-clause-ok : goal.returns-in-None-clause-ok
returns-in-None-clause-ok c =
    let key = c.args.key.now in
    let wide : AllWide (width key.automaton + 1) c.args.after.now.rows = subst (λ n. AllWide n c.args.after.now.rows) c.requires.after.wide c.width.ensures.kept.wide in
    sample_none key c.automaton_of.ensures.limits c.automaton_of.ensures.kept c.args.node.now c.requires.node c.args.after.now c.requires.after wide c.args.found.now.items c.requires.wide c.requires.found
    (subst (IsLeft (sample_stage key.automaton key.gap key.seen c.args.after.now.rows)) c.in-None.is c.in_ok-rows.ensures.ok)

pub put_new-requires-clause-wide : goal.put_new-requires-clause-wide
put_new-requires-clause-wide c =
    let key = c.args.key.now in
    let left = subst (IsLeft (sample_stage key.automaton key.gap key.seen c.args.after.now.rows)) c.in-Some.is c.in_ok-rows.ensures.ok in
    subst (λ n. AreWide n c.args.found.now.items) (sym left.0) c.requires.wide

pub put_new-requires-clause-few : goal.put_new-requires-clause-few
put_new-requires-clause-few c =
    let key = c.args.key.now in
    let left = subst (IsLeft (sample_stage key.automaton key.gap key.seen c.args.after.now.rows)) c.in-Some.is c.in_ok-rows.ensures.ok in
    let few = c.automaton_of.ensures.limits.variables.1 in
    let w = left.0 in
    omega (arith, few, w)

pub returns-in_ok-put_new-in-Some-clause-ok : goal.returns-in_ok-put_new-in-Some-clause-ok
returns-in_ok-put_new-in-Some-clause-ok c =
    let key = c.args.key.now in
    let wide : AllWide (width key.automaton + 1) c.args.after.now.rows = subst (λ n. AllWide n c.args.after.now.rows) c.requires.after.wide c.width.ensures.kept.wide in
    let left = subst (IsLeft (sample_stage key.automaton key.gap key.seen c.args.after.now.rows)) c.in-Some.is c.in_ok-rows.ensures.ok in
    put_walked key c.automaton_of.ensures.limits c.automaton_of.ensures.kept c.args.node.now c.requires.node c.args.after.now c.requires.after wide c.in-Some.rows left
    c.args.found.now.items c.put_new.new.found.items c.requires.wide c.requires.found c.requires.before c.in_ok-put_new-in-Some.ensures
