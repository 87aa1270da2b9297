use Rattle.std.proofs.Common.{◌+ℤ◌, ◌*ℤ◌, pos, ℤ, SFits, SomeIff, rules, subst}
use Rattle.std.specs.Int.{w128}
use Rattle.std.proofs.lemmas.Int.{to_z-of_z}
use Rattle.poly_specs.specs.Bits.{FitsBits}
use Rattle.column_pick.specs.Ranges.{IsFloor}
use Rattle.column_pick.proofs.WholeLemmas.{least_whole}
use Rattle.column_pick.proofs.wholes.least_whole.Goals as goal

pub returns : goal.returns
returns c =
    let distance_fits : SFits w128 c.distance.result = search rules in
    let den_fits : SFits w128 c.den.result = search rules in
    let parts_fits : SFits w128 c.args.parts = search rules in
    let last_fits : SFits w128 c.floor_of_two-last.result = search rules in
    let floor : IsFloor c.distance.result (c.den.result *ℤ c.args.parts) c.floor_of_two-last.result =
    simp (to_z-of_z, distance_fits, den_fits, parts_fits) at c.floor_of_two-last.ensures in
    let over = subst (λ (d : ℤ). IsFloor c.distance.result (d *ℤ c.args.parts) c.floor_of_two-last.result) c.den.ensures.value floor in
    let said = subst (λ (q : ℤ). SomeIff c.next.result (FitsBits (q +ℤ pos 1)) (q +ℤ pos 1)) (to_z-of_z w128 c.floor_of_two-last.result last_fits) c.next.ensures in (
      c.floor_of_two-last.result +ℤ pos 1,
      least_whole c.args.near.now c.args.parts c.distance.result c.floor_of_two-last.result c.den.ensures.kept.positive c.requires.positive c.distance.ensures.value over,
      said,
    )
