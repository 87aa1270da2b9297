use Rattle.std.proofs.Common.{◌≡◌, ◌+◌, suc, ◌++◌, ◌∷◌, [], map, take, sym, subst, arith}
use Rattle.lang_tokens.specs.Machines.{AllValues}
use Rattle.lang_transitions.specs.ActMachine.{IsActValue}
use Rattle.lang_transitions.specs.ActViews.{act_of}
use Rattle.lang_tokens.proofs.JoinedLaws.{values_more}
use Rattle.lang_transitions.proofs.acts.act_trees.Goals as goal

pub loop-text-preserved : goal.loop-text-preserved
loop-text-preserved c =
    let texts = c.args.texts.now in
    let n = c.loop-text.text-index in
    let items = c.loop-text.trees.items ++ c.in-Some.tree ∷ [] in
    let more : suc n ≡ n + 1 = omega arith in
    let whole = values_more IsActValue act_of texts n _ c.loop-text.trees.items c.in-Some.tree c.loop-text-test.true c.loop-text.invariant (subst (λ t. IsActValue (act_of t) c.in-Some.tree) c.text-item.is c.in-Some.ensures) in
    subst (λ ys. AllValues IsActValue (map act_of (take (n + 1) texts)) ys) (sym c.in_ok-push-in-Some.ensures.items)
    (subst (λ k. AllValues IsActValue (map act_of (take k texts)) items) more whole)
