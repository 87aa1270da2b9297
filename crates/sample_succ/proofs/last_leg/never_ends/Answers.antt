use Rattle.std.proofs.Common.{◌+◌, subst, Bool, Result, Ok, Err}
use Rattle.std.specs.Prelude.{IfOk}
use Rattle.poly_specs.specs.Rows.{AllWide, HasPoint}
use Rattle.poly_specs.specs.Systems.{System}
use Rattle.run_specs.specs.Automaton.{width}
use Rattle.sample_succ.proofs.LastLegLemmas.{ends_nowhere}
use Rattle.sample_succ.proofs.VisitLemmas.{known}
use Rattle.sample_succ.proofs.last_leg.never_ends.Goals as goal

pub with_sample-requires-clause-known : goal.with_sample-requires-clause-known
with_sample-requires-clause-known c = known c.args.key.now c.automaton_of.ensures.limits c.automaton_of.ensures.kept c.args.node.now c.requires.node

weaker : {E : Type 0} {P Q : Bool → Type 0} (r : Result Bool E) → ((b : Bool) → P b → Q b) → IfOk r P → IfOk r Q
weaker (Ok b) f h = f b h
weaker (Err e) f h = h

pub returns-in-Ok : goal.returns-in-Ok
returns-in-Ok c =
    let key = c.args.key.now in
    let n = c.args.node.now in
    let wide : AllWide (width key.automaton + 1) n.before.rows = subst (λ w. AllWide w n.before.rows) c.requires.node.at.wide c.width.ensures.kept.wide in
    weaker c.is_shown_empty.result (λ b h t. ends_nowhere key c.automaton_of.ensures.limits c.automaton_of.ensures.kept n c.requires.node wide
    (subst (λ (s : System). HasPoint s.width s.rows → ⊥) c.in-Ok.ensures (h t))) c.is_shown_empty.ensures
