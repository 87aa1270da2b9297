use Rattle.std.proofs.Common.{◌*ℤ◌, SFits, rules, subst, sym}
use Rattle.std.specs.Int.{w128}
use Rattle.std.proofs.lemmas.Int.{to_z-of_z}
use Rattle.column_pick.specs.Ranges.{IsFloor}
use Rattle.column_pick.proofs.WholeLemmas.{floor_twice}
use Rattle.column_pick.proofs.wholes.floor_of_two.Goals as goal

pub returns : goal.returns
returns c =
    let number_fits : SFits w128 c.args.number = search rules in
    let by_fits : SFits w128 c.args.by = search rules in
    let parts_fits : SFits w128 c.args.parts = search rules in
    let first_fits : SFits w128 c.floor.result = search rules in
    let second_fits : SFits w128 c.floor-2.result = search rules in
    let first : IsFloor c.args.number c.args.by c.floor.result = simp (to_z-of_z, number_fits, by_fits) at c.floor.ensures in
    let second : IsFloor c.floor.result c.args.parts c.floor-2.result = simp (to_z-of_z, first_fits, parts_fits) at c.floor-2.ensures in
    subst (IsFloor c.args.number (c.args.by *ℤ c.args.parts)) (sym (to_z-of_z w128 c.floor-2.result second_fits))
    (floor_twice c.args.number c.args.by c.args.parts c.floor.result c.floor-2.result c.requires.by c.requires.parts first second)
