use Rattle.std.proofs.Common.{ℤ, pos, Option, Some, SFits, rules, subst, sym}
use Rattle.std.specs.Int.{w128}
use Rattle.std.proofs.lemmas.Int.{to_z-of_z}
use Rattle.column_pick.specs.Ranges.{IsBetween}
use Rattle.column_pick.specs.RangePicks.{IsPickOf}
use Rattle.column_pick.specs.declared.ranges.Cap.{Cap}
use Rattle.column_pick.proofs.BetweenLemmas.{whole_pick, zero_picked}
use Rattle.column_pick.proofs.picks.pick_between.Goals as goal

pub returns-in-Some : goal.returns-in-Some
returns-in-Some c =
    let fits : SFits w128 c.args.parts = search rules in
    let said = subst (λ (p : ℤ). IsPickOf (IsBetween p (record { up = c.args.range.now.up; down = Some c.in-Some.down })) c.pick_above_zero.result) (to_z-of_z w128 c.args.parts fits) c.pick_above_zero.ensures in
    subst (λ (k : Option Cap). IsPickOf (IsBetween c.args.parts (record { up = c.args.range.now.up; down = k })) c.pick_above_zero.result) (sym c.in-Some.ensures.0) said

pub returns-in-Some-short_cap : goal.returns-in-Some-short_cap
returns-in-Some-short_cap c =
    let fits : SFits w128 c.args.parts = search rules in
    let said = subst (λ (p : ℤ). IsPickOf (IsBetween p (record { up = Some c.in-Some-short_cap.up; down = c.args.range.now.down })) c.pick_below_zero.result) (to_z-of_z w128 c.args.parts fits) c.pick_below_zero.ensures in
    subst (λ (k : Option Cap). IsPickOf (IsBetween c.args.parts (record { up = k; down = c.args.range.now.down })) c.pick_below_zero.result) (sym c.in-Some-short_cap.ensures.0) said

pub returns-in-None-short_cap : goal.returns-in-None-short_cap
returns-in-None-short_cap c =
    whole_pick (IsBetween c.args.parts c.args.range.now) c.whole.result (pos 0) c.whole.ensures
    (zero_picked (IsBetween c.args.parts c.args.range.now) (c.in-None-short_cap.ensures c.args.parts c.requires.positive, c.in-None.ensures c.args.parts c.requires.positive))
