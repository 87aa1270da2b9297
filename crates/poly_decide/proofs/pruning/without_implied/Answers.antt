use Rattle.std.proofs.Common.{◌≡◌, ◌+◌, ◌-◌, ◌≤◌, length, subst, arith}
use Rattle.poly_decide.specs.Pruned.{AreUndominatedFrom}
use Rattle.poly_decide.proofs.DominationLemmas.{undominated_past, undominated_all}
use Rattle.poly_decide.proofs.PruneLemmas.{thinned_same, thinned_trans, wide_thinned}
use Rattle.poly_decide.proofs.pruning.without_implied.Goals as goal

pub loop-done-init : goal.loop-done-init
loop-done-init c =
    let all : length c.args.rows.items ≤ c.len-count.result - 0 = omega (arith, c.len-count.ensures) in
    record {
      thinned = thinned_same c.args.width c.args.rows.items;
      undominated = undominated_past c.args.rows.items (c.len-count.result - 0) all;
    }

pub without_one-requires : goal.without_one-requires
without_one-requires c = record { wide = wide_thinned c.args.width c.args.rows.items c.loop-done.left.items c.requires.wide c.loop-done.invariant.thinned }

pub loop-done-preserved : goal.loop-done-preserved
loop-done-preserved c =
    let here : c.len-count.result - c.loop-done.done ≡ c.len-count.result - 1 - c.loop-done.done + 1 = omega arith in
    let next : c.len-count.result - 1 - c.loop-done.done ≡ c.len-count.result - (c.loop-done.done + 1) = omega arith in
    record {
      thinned = thinned_trans c.args.width c.args.rows.items c.loop-done.left.items c.in_ok-left.left.items c.loop-done.invariant.thinned c.in_ok-left.ensures.thinned;
      undominated = subst (λ k. AreUndominatedFrom k c.in_ok-left.left.items) next
          (c.in_ok-left.ensures.undominated (subst (λ k. AreUndominatedFrom k c.loop-done.left.items) here c.loop-done.invariant.undominated));
    }

pub returns-clause-undominated : goal.returns-clause-undominated
returns-clause-undominated c =
    let none : c.len-count.result - c.loop-done.done ≡ 0 = omega arith in
    undominated_all c.loop-done.left.items (c.len-count.result - c.loop-done.done) none c.loop-done.invariant.undominated
