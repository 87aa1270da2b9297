use Rattle.std.proofs.Common.{◌≡◌, ◌+◌, suc, ◌++◌, ◌∷◌, [], map, take, sym, subst, arith}
use Rattle.lang_tokens.specs.Machines.{AllValues}
use Rattle.lang_lists.proofs.NameLaws.{SameName}
use Rattle.lang_tokens.proofs.JoinedLaws.{values_more}
use Rattle.lang_lists.proofs.names.trees.Goals as goal

pub loop-text-preserved : goal.loop-text-preserved
loop-text-preserved c =
    let texts = c.args.texts.now in
    let n = c.loop-text.text-index in
    let items = c.loop-text.names.items ++ c.in-Some.name ∷ [] in
    let more : suc n ≡ n + 1 = omega arith in
    let whole = values_more SameName (λ x. x.now) texts n _ c.loop-text.names.items c.in-Some.name c.loop-text-test.true c.loop-text.invariant (sym c.in-Some.ensures.1) in
    subst (λ ys. AllValues SameName (map (λ x. x.now) (take (n + 1) texts)) ys) (sym c.in_ok-push-in-Some.ensures.items)
    (subst (λ k. AllValues SameName (map (λ x. x.now) (take k texts)) items) more whole)
