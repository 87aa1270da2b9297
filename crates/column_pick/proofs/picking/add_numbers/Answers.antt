use Rattle.std.proofs.Common.{◌≡◌, Err, ◌∙◌, ◌+◌, ◌-◌, ◌<◌, ◌≤◌, ◌++◌, ◌∷◌, [], List, length, length-append, get_or, sym, ap, subst, arith, rules}
use Rattle.std.specs.Prelude.{All}
use Rattle.std.proofs.lemmas.List.Elements.{All-push}
use Rattle.fm_eliminate.specs.declared.RowFault.TheVariants.{Passes}
use Rattle.poly_specs.specs.Fractions.{Fraction}
use Rattle.poly_specs.specs.LowestTerms.{IsLowest}
use Rattle.poly_specs.specs.Systems.{System, no_system}
use Rattle.column_pick.specs.Nexts.{whole_of}
use Rattle.column_pick.specs.Picked.{ArePickedSoFar}
use Rattle.column_pick.proofs.LevelLemmas.{level_of, whole_wide}
use Rattle.column_pick.proofs.SoFarLemmas.{so_far_more, next_picking}
use Rattle.column_pick.proofs.picking.add_numbers.Goals as goal

pub returns-in_err-add_number-clause-passes : goal.returns-in_err-add_number-clause-passes
returns-in_err-add_number-clause-passes c e =
    let s : System = whole_of c.args.levels.now in
    let numbers : List Fraction = c.loop.numbers.items in
    let sized = c.loop.invariant.0 in
    let from : c.args.levels.now.first ≤ length numbers = omega (arith, sized, c.loop.auto.counter, c.first-counter.ensures) in
    let within : length numbers < s.width = omega (arith, sized, c.loop-test.true, c.requires.width) in
    let fits : c.args.levels.now.first ≤ s.width = omega (arith, c.requires.fits, c.requires.width) in
    let same : c.in_err-add_number.field-0.0 ≡ Passes = search rules in
    let level = level_of c.args.levels.now (length numbers) c.requires.levels from within in
    next_picking s c.args.numbers.now.items numbers (get_or c.args.levels.now.systems (length numbers + 1 - c.args.levels.now.first) no_system).rows
    (whole_wide c.args.levels.now.first s c.args.levels.now c.requires.levels fits) level within c.loop.invariant.2 (c.in_err-add_number.ensures.passes (ap (λ f. Err f) same))

pub loop-preserved : goal.loop-preserved
loop-preserved c =
    let s : System = whole_of c.args.levels.now in
    let numbers : List Fraction = c.loop.numbers.items in
    let (v, items, low, pick) = c.in_ok-add_number.ensures.ok in
    let sized = c.loop.invariant.0 in
    let from : c.args.levels.now.first ≤ length numbers = omega (arith, sized, c.loop.auto.counter, c.first-counter.ensures) in
    let within : length numbers < s.width = omega (arith, sized, c.loop-test.true, c.requires.width) in
    let level = level_of c.args.levels.now (length numbers) c.requires.levels from within in
    let more = so_far_more s c.args.numbers.now.items numbers (get_or c.args.levels.now.systems (length numbers + 1 - c.args.levels.now.first) no_system).rows level within c.loop.invariant.2 v pick in
    let long : length (numbers ++ v ∷ []) ≡ c.loop.counter + 1 = omega (arith, sized, length-append numbers (v ∷ [])) in (
      ap (λ (xs : List Fraction). length xs) items ∙ long,
      subst (λ (xs : List Fraction). All IsLowest xs) (sym items) (All-push IsLowest numbers v c.loop.invariant.1 low),
      subst (λ (xs : List Fraction). ArePickedSoFar s c.args.numbers.now.items xs) (sym items) more,
    )
