use Rattle.std.proofs.Common.{◌≡◌, ◌∙◌, ◌≤◌, ℕ, List, length, sym, subst, arith}
use Rattle.std.specs.Prelude.{All, IfOk}
use Rattle.poly_specs.specs.Bits.{SomePasses}
use Rattle.poly_specs.specs.Denominators.{common_numbers}
use Rattle.poly_specs.specs.Fractions.{Fraction}
use Rattle.poly_specs.specs.LowestTerms.{IsLowest}
use Rattle.poly_specs.specs.Rows.{Point}
use Rattle.poly_specs.specs.Systems.{System}
use Rattle.column_pick.specs.Fixed.{fixed_point}
use Rattle.column_pick.specs.Nexts.{whole_of, HasFirst}
use Rattle.column_pick.specs.Picked.{numbers_of, ArePickedSoFar}
use Rattle.column_pick.proofs.LevelLemmas.{whole_wide}
use Rattle.column_pick.proofs.SoFarLemmas.{picked_answer, common_picking}
use Rattle.column_pick.proofs.StartLemmas.{numbers_lowest, start_point}
use Rattle.column_pick.proofs.picking.pick.Goals as goal

pub add_numbers-requires-clause-lowest : goal.add_numbers-requires-clause-lowest
add_numbers-requires-clause-lowest c =
    subst (λ (xs : List Fraction). All IsLowest xs) (sym c.in_ok-numbers.ensures) (numbers_lowest c.args.fixed.now c.see_kept_point.ensures.positive)

pub add_numbers-requires-clause-some : goal.add_numbers-requires-clause-some
add_numbers-requires-clause-some c =
    subst (λ (xs : List Fraction). (q : Point) × HasFirst (whole_of c.args.levels.now) xs q) (sym c.in_ok-numbers.ensures)
    (start_point c.args.levels.now c.args.fixed.now c.requires.levels c.requires.fits c.requires.sized c.see_kept_point.ensures.positive c.requires.inside)

module _ (c : goal.After-drop-numbers-2) where
  abbrev s : System
  s = whole_of c.args.levels.now

  abbrev numbers : List Fraction
  numbers = c.add_numbers.new.numbers.items

  sized : length numbers ≡ s.width
  sized = c.in_ok-add_numbers.ensures.sized ∙ c.width_of-width.ensures.value

  so_far : ArePickedSoFar s (numbers_of c.args.fixed.now) numbers
  so_far = subst (λ (xs : List Fraction). ArePickedSoFar s xs numbers) c.in_ok-numbers.ensures c.in_ok-add_numbers.ensures.picked

pub returns-clause-ok : goal.returns-clause-ok
returns-clause-ok c =
    picked_answer (s c) (numbers_of c.args.fixed.now) (numbers c) (sized c) c.in_ok-add_numbers.ensures.lowest (so_far c) c.fixed_point.result
    (subst (λ (w : ℕ). IfOk c.fixed_point.result (λ p. p ≡ fixed_point w (numbers c))) c.width_of-width.ensures.value
    (subst (λ (xs : List Fraction). IfOk c.fixed_point.result (λ p. p ≡ fixed_point c.width_of-width.result xs)) c.as_slice.ensures.value c.fixed_point.ensures.ok))

pub returns-clause-passes : goal.returns-clause-passes
returns-clause-passes c e =
    let fits : length (numbers c) ≤ (s c).width = omega (arith, sized c) in
    common_picking (s c) (numbers_of c.args.fixed.now) (numbers c) (whole_wide c.args.levels.now.first (s c) c.args.levels.now c.requires.levels c.requires.fits) fits (so_far c)
    (subst (λ (xs : List Fraction). SomePasses (common_numbers xs)) c.as_slice.ensures.value (c.fixed_point.ensures.passes e))
