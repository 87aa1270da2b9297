use Rattle.std.proofs.Common.{◌≡◌, ◌∙◌, List, drop, length, sym, ap, subst, arith}
use Rattle.std.specs.Prelude.{IfOk}
use Rattle.std.proofs.lemmas.List.{length-drop}
use Rattle.poly_specs.specs.Bits.{NonePasses}
use Rattle.poly_specs.specs.Denominators.{common_numbers}
use Rattle.poly_specs.specs.Fractions.{Fraction}
use Rattle.column_pick.specs.Picked.{numbers_of}
use Rattle.gap_runs.specs.Befores.{common_point}
use Rattle.gap_runs.proofs.PartLemmas.{part_fits, length-numbers}
use Rattle.gap_runs.proofs.parts.part_from.Goals as goal

pub from_place-requires : goal.from_place-requires
from_place-requires c =
    let e = ap length (c.as_slice.ensures.value ∙ c.in_ok-numbers.ensures) ∙ length-numbers c.args.point.now in omega (arith, c.requires.within, e)

pub common_of-requires-clause-few : goal.common_of-requires-clause-few
common_of-requires-clause-few c =
    let e = ap length (c.from_place.ensures ∙ ap (drop c.args.from) (c.as_slice.ensures.value ∙ c.in_ok-numbers.ensures)) in
    omega (arith, e, c.requires.few, length-drop c.args.from (numbers_of c.args.point.now), length-numbers c.args.point.now)

pub common_of-requires-clause-fit : goal.common_of-requires-clause-fit
common_of-requires-clause-fit c =
    let e = c.from_place.ensures ∙ ap (drop c.args.from) (c.as_slice.ensures.value ∙ c.in_ok-numbers.ensures) in
    subst (λ (xs : List Fraction). NonePasses (common_numbers xs)) (sym e) (part_fits c.args.from c.args.point.now c.den.ensures.kept)

pub returns : goal.returns
returns c =
    let e = c.from_place.ensures ∙ ap (drop c.args.from) (c.as_slice.ensures.value ∙ c.in_ok-numbers.ensures) in
    subst (λ (xs : List Fraction). IfOk c.common_of.result (λ p. p ≡ common_point xs)) e c.common_of.ensures
