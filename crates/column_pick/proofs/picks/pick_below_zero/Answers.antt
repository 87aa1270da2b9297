use Rattle.std.proofs.Common.{ℤ, Option, Some, None, SFits, rules, subst, sym}
use Rattle.std.specs.Int.{w128}
use Rattle.std.proofs.lemmas.Int.{to_z-of_z}
use Rattle.column_pick.specs.Ranges.{IsBetween}
use Rattle.column_pick.specs.RangePicks.{IsPickOf}
use Rattle.column_pick.specs.declared.ranges.Cap.{Cap}
use Rattle.column_pick.proofs.picks.pick_below_zero.Goals as goal

pub returns-in-None : goal.returns-in-None
returns-in-None c =
    let fits : SFits w128 c.args.parts = search rules in
    let said = subst (λ (p : ℤ). IsPickOf (IsBetween p (record { up = Some c.args.up.now; down = None })) c.pick_up_to.result) (to_z-of_z w128 c.args.parts fits) c.pick_up_to.ensures in
    subst (λ (k : Option Cap). IsPickOf (IsBetween c.args.parts (record { up = Some c.args.up.now; down = k })) c.pick_up_to.result) (sym c.in-None.is) said

pub returns-in-Some : goal.returns-in-Some
returns-in-Some c =
    let fits : SFits w128 c.args.parts = search rules in
    let said = subst (λ (p : ℤ). IsPickOf (IsBetween p (record { up = Some c.args.up.now; down = Some c.in-Some.down })) c.pick_below.result) (to_z-of_z w128 c.args.parts fits) c.pick_below.ensures in
    subst (λ (k : Option Cap). IsPickOf (IsBetween c.args.parts (record { up = Some c.args.up.now; down = k })) c.pick_below.result) (sym c.in-Some.is) said
