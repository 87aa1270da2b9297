use Rattle.std.proofs.Common.{◌∙◌, arith, ap, sym, subst}
use Rattle.gap_keys.specs.Views.{states_of}
use Rattle.sample_succ.specs.Walks.{WalkedFrom}
use Rattle.sample_succ.proofs.ParentLemmas.{many_of}
use Rattle.sample_succ.proofs.WalkLemmas.{from_none, all_exact}
use Rattle.sample_succ.proofs.gap_step.find_all.Goals as goal

pub loop-parent-init : goal.loop-parent-init
loop-parent-init c = subst (WalkedFrom c.args.key.now 0) (sym c.new-found.ensures.items) (from_none c.args.key.now)

pub find_from-requires-clause-known : goal.find_from-requires-clause-known
find_from-requires-clause-known c =
    let many = many_of c.states-count.result.now c.args.key.now.belief (ap (λ vs. states_of vs) c.states-count.ensures ∙ c.belief.ensures.value) in
    let within = c.loop-parent-test.true in
    omega (arith, many, within)

pub returns-clause-ok : goal.returns-clause-ok
returns-clause-ok c =
    let many = many_of c.states-count.result.now c.args.key.now.belief (ap (λ vs. states_of vs) c.states-count.ensures ∙ c.belief.ensures.value) in
    let past = c.loop-parent-test.false in
    all_exact c.args.key.now c.loop-parent.parent c.loop-parent.found.items (omega (arith, many, past)) c.loop-parent.invariant

pub returns-clause-wide : goal.returns-clause-wide
returns-clause-wide c = c.loop-parent.invariant.wide
