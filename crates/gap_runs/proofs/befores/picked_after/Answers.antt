use Rattle.std.proofs.Common.{◌≡◌, ◌-◌, ◌≤◌, ◌∙◌, inl, inr, Err, ℕ, List, ℤ, length, get_or, refl, ap, rules, sym, subst}
use Rattle.std.specs.Prelude.{IfOk}
use Rattle.fm_eliminate.specs.declared.RowFault.TheVariants.{Passes}
use Rattle.poly_specs.specs.Bits.{SomePasses}
use Rattle.poly_specs.specs.Elimination.{formed_each, columns_down}
use Rattle.poly_specs.specs.Rows.{AllHold, over}
use Rattle.poly_specs.specs.Systems.{System, Levels, AreLevels, no_system}
use Rattle.column_pick.specs.Fixed.{padded}
use Rattle.column_pick.specs.Picked.{numbers_of, IsPickedPoint, PickingPasses}
use Rattle.column_pick.proofs.LevelLemmas.{whole_is, own_levels}
use Rattle.gap_runs.proofs.BeginLemmas.{first_holds}
use Rattle.gap_runs.proofs.befores.picked_after.Goals as goal

pub returns-in_err-levels-clause-passes : goal.returns-in_err-levels-clause-passes
returns-in_err-levels-clause-passes c e =
    let same : c.in_err-levels.field-0.0 ≡ Passes = search rules in
    inl (subst (λ (ns : List ℤ). SomePasses (formed_each (columns_down (length ns) (c.args.system.now.width - length ns)) c.args.system.now.rows)) c.num.ensures.value (c.in_err-levels.ensures.passes (ap (λ f. Err f) same)))

told : (s : System) (l : Levels) (ns ms : List ℤ) → ns ≡ ms → AreLevels (length ns) s l → AreLevels (length ms) s l
told s l ns ms e are = subst (λ (xs : List ℤ). AreLevels (length xs) s l) e are

pub pick-requires-clause-levels : goal.pick-requires-clause-levels
pick-requires-clause-levels c = own_levels (length c.num.result.now) c.args.system.now c.in_ok-levels.levels c.in_ok-levels.ensures.ok

pub pick-requires-clause-fits : goal.pick-requires-clause-fits
pick-requires-clause-fits c =
    let l : Levels = c.in_ok-levels.levels in
    let are = told c.args.system.now l c.num.result.now c.args.first.now.num c.num.ensures.value c.in_ok-levels.ensures.ok in
    subst (λ (t : System). l.first ≤ t.width) (sym (whole_is (length c.args.first.now.num) c.args.system.now l are)) (subst (λ (n : ℕ). n ≤ c.args.system.now.width) (sym are.from_first) c.requires.fits)

pub pick-requires-clause-sized : goal.pick-requires-clause-sized
pick-requires-clause-sized c = sym (ap length c.num.ensures.value) ∙ sym c.in_ok-levels.ensures.ok.from_first

pub pick-requires-clause-inside : goal.pick-requires-clause-inside
pick-requires-clause-inside c =
    let l : Levels = c.in_ok-levels.levels in
    let first = c.args.first.now in
    let are = told c.args.system.now l c.num.result.now first.num c.num.ensures.value c.in_ok-levels.ensures.ok in
    subst (λ (t : System). AllHold (get_or l.systems 0 no_system).rows (over first.den (padded t.width first.num))) (sym (whole_is (length first.num) c.args.system.now l are))
    (first_holds c.args.system.now (length first.num) l first c.requires.begins.0 refl are c.requires.fits c.den.ensures.kept.positive c.requires.begins.1)

pub returns-clause-ok : goal.returns-clause-ok
returns-clause-ok c =
    subst (λ (t : System). IfOk c.pick.result (λ p. IsPickedPoint t (numbers_of c.args.first.now) p)) (whole_is (length c.num.result.now) c.args.system.now c.in_ok-levels.levels c.in_ok-levels.ensures.ok) c.pick.ensures.ok

pub returns-clause-passes : goal.returns-clause-passes
returns-clause-passes c e =
    inr (subst (λ (t : System). PickingPasses t (numbers_of c.args.first.now)) (whole_is (length c.num.result.now) c.args.system.now c.in_ok-levels.levels c.in_ok-levels.ensures.ok) (c.pick.ensures.passes e))
