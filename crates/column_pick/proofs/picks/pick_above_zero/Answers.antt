use Rattle.std.proofs.Common.{ℤ, Option, Some, None, SFits, rules, subst, sym}
use Rattle.std.specs.Int.{w128}
use Rattle.std.proofs.lemmas.Int.{to_z-of_z}
use Rattle.column_pick.specs.Ranges.{IsBetween}
use Rattle.column_pick.specs.RangePicks.{IsPickOf}
use Rattle.column_pick.specs.declared.ranges.Cap.{Cap}
use Rattle.column_pick.proofs.picks.pick_above_zero.Goals as goal

pub returns-in-None : goal.returns-in-None
returns-in-None c =
    let fits : SFits w128 c.args.parts = search rules in
    let said = subst (λ (p : ℤ). IsPickOf (IsBetween p (record { up = None; down = Some c.args.down.now })) c.pick_from.result) (to_z-of_z w128 c.args.parts fits) c.pick_from.ensures in
    subst (λ (k : Option Cap). IsPickOf (IsBetween c.args.parts (record { up = k; down = Some c.args.down.now })) c.pick_from.result) (sym c.in-None.is) said

pub returns-in-Some : goal.returns-in-Some
returns-in-Some c =
    let fits : SFits w128 c.args.parts = search rules in
    let said = subst (λ (p : ℤ). IsPickOf (IsBetween p (record { up = Some c.in-Some.up; down = Some c.args.down.now })) c.pick_above.result) (to_z-of_z w128 c.args.parts fits) c.pick_above.ensures in
    subst (λ (k : Option Cap). IsPickOf (IsBetween c.args.parts (record { up = k; down = Some c.args.down.now })) c.pick_above.result) (sym c.in-Some.is) said
