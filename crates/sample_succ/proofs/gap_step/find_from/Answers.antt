use Rattle.std.proofs.Common.{◌∙◌, length, arith, ap, sym, subst}
use Rattle.sample_succ.specs.Covers.{items_of}
use Rattle.sample_succ.specs.Walks.{AllBefore, WalkedTo}
use Rattle.sample_succ.proofs.WalkLemmas.{all_before, from_next}
use Rattle.sample_succ.proofs.gap_step.find_from.Goals as goal

pub walk-requires-clause-left : goal.walk-requires-clause-left
walk-requires-clause-left c =
    let none = ap length c.in_ok-node.ensures.path in
    let jumps = c.from-left.ensures ∙ c.jumps.ensures.value in
    omega (arith, none, jumps)

pub walk-requires-clause-wide : goal.walk-requires-clause-wide
walk-requires-clause-wide c = c.requires.before.wide

pub walk-requires-clause-found : goal.walk-requires-clause-found
walk-requires-clause-found c = c.requires.before.found

pub walk-requires-clause-before : goal.walk-requires-clause-before
walk-requires-clause-before c =
    let fs = c.args.found.now.items in
    subst (λ i. AllBefore (items_of fs) i c.in_ok-node.node.path.items) (sym c.in_ok-node.ensures.parent)
    (subst (AllBefore (items_of fs) c.args.parent) (sym c.in_ok-node.ensures.path) (all_before c.args.key.now c.args.parent fs c.requires.before))

pub returns-clause-ok : goal.returns-clause-ok
returns-clause-ok c =
    let key = c.args.key.now in
    let old = c.args.found.now.items in
    let new = c.walk.new.found.items in
    from_next key c.args.parent old new c.requires.before
    (subst (λ p. WalkedTo key c.args.parent p (length key.automaton.transitions) old new) c.in_ok-node.ensures.path
    (subst (λ i. WalkedTo key i c.in_ok-node.node.path.items (length key.automaton.transitions) old new) c.in_ok-node.ensures.parent c.in_ok-walk.ensures.ok))
