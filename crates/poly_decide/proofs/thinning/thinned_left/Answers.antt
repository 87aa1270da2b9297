use Rattle.std.proofs.Common.{◌≡◌, ◌+◌, ◌-◌, sym, subst, arith}
use Rattle.poly_decide.specs.Pruned.{IsLevelOf}
use Rattle.poly_decide.proofs.ThinningLemmas.{whole_level}
use Rattle.poly_decide.proofs.thinning.thinned_left.Goals as goal

pub loop-done-init : goal.loop-done-init
loop-done-init c =
    let e : c.args.system.now.width ≡ c.width-width.result - 0 = omega (arith, c.width-width.ensures.value) in
    let whole = whole_level c.args.system.now c.width-width.ensures.kept.wide in
    subst (IsLevelOf c.args.system.now (c.width-width.result - 0)) (sym c.in_ok-left.ensures)
    (subst (λ n. IsLevelOf c.args.system.now n c.args.system.now) e whole)

pub without_column-requires-clause-level : goal.without_column-requires-clause-level
without_column-requires-clause-level c =
    let e : c.width-width.result - c.loop-done.done ≡ c.width-width.result - 1 - c.loop-done.done + 1 = omega arith in
    subst (λ n. IsLevelOf c.args.system.now n c.loop-done.left) e c.loop-done.invariant

pub loop-done-preserved : goal.loop-done-preserved
loop-done-preserved c =
    let e : c.width-width.result - 1 - c.loop-done.done ≡ c.width-width.result - (c.loop-done.done + 1) = omega arith in
    subst (λ n. IsLevelOf c.args.system.now n c.in_ok-left-2.left) e c.in_ok-left-2.ensures.ok

pub returns-clause-ok : goal.returns-clause-ok
returns-clause-ok c =
    let e : c.width-width.result - c.loop-done.done ≡ c.args.first = omega arith in
    subst (λ n. IsLevelOf c.args.system.now n c.loop-done.left) e c.loop-done.invariant
