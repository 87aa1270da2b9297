use Rattle.std.proofs.Common.{◌≡◌, ◌+◌, ◌-◌, sym, subst, arith}
use Rattle.poly_specs.specs.Systems.{AreLevels, Levels}
use Rattle.fm_eliminate.proofs.LevelLemmas.{levels_start, levels_at}
use Rattle.poly_decide.proofs.thinning.thinned_levels.Goals as goal

pub loop-done-init : goal.loop-done-init
loop-done-init c =
    let wide = c.width-width.ensures.kept.wide in
    let all : c.width-width.result - 0 ≡ c.args.system.now.width = omega arith in
    subst (λ systems. AreLevels (c.width-width.result - 0) c.args.system.now (record { first = c.width-width.result - 0; systems = systems })) (sym c.in_ok-systems.ensures)
    (levels_start c.args.system.now (c.width-width.result - 0) all wide)

pub add_level-requires-clause-levels : goal.add_level-requires-clause-levels
add_level-requires-clause-levels c =
    let e : c.width-width.result - c.loop-done.done ≡ c.width-width.result - 1 - c.loop-done.done + 1 = omega arith in
    levels_at c.args.system.now c.loop-done.systems.items _ _ e c.loop-done.invariant

pub loop-done-preserved : goal.loop-done-preserved
loop-done-preserved c =
    let e : c.width-width.result - 1 - c.loop-done.done ≡ c.width-width.result - (c.loop-done.done + 1) = omega arith in
    levels_at c.args.system.now c.add_level.new.systems.items _ _ e c.in_ok-add_level.ensures.ok

pub returns-clause-ok : goal.returns-clause-ok
returns-clause-ok c =
    let e : c.width-width.result - c.loop-done.done ≡ c.args.first = omega arith in
    subst (λ (l : Levels). AreLevels c.args.first c.args.system.now l) (sym c.of_systems.ensures.value)
    (levels_at c.args.system.now c.loop-done.systems.items _ _ e c.loop-done.invariant)
