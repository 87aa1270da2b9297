use Rattle.std.proofs.Common.{◌∙◌, ℤ, Some, SFits, rules, subst, sym, ap}
use Rattle.std.specs.Int.{w128}
use Rattle.std.proofs.lemmas.Int.{to_z-of_z}
use Rattle.poly_specs.specs.Picks.{HasNoInteger}
use Rattle.poly_specs.specs.Sets.{HasMember}
use Rattle.poly_specs.proofs.SetLemmas.{member_within}
use Rattle.column_pick.specs.Ranges.{IsBetween, IsUnder, whole, IsLeastWhole, HasNoWhole}
use Rattle.column_pick.specs.RangePicks.{IsPickOf, IsInGap, opposite_cap}
use Rattle.column_pick.specs.declared.ranges.Cap.{Cap}
use Rattle.column_pick.proofs.BetweenLemmas.{to_gap, from_gap, none_above, pick_of_same, above_whole, whole_pick}
use Rattle.column_pick.proofs.picks.pick_above.Goals as goal

module _ (c : goal.After-gap_pick-arg-1) where
  some : HasMember (IsInGap c.args.parts (opposite_cap c.args.down.now) c.args.up.now)
  some =
      member_within (IsBetween c.args.parts (record { up = Some c.args.up.now; down = Some c.args.down.now })) (IsInGap c.args.parts (opposite_cap c.args.down.now) c.args.up.now)
      (to_gap c.args.parts c.args.down.now c.args.up.now c.requires.positive c.see_kept.ensures.positive c.see_kept-2.ensures.positive) c.requires.some

  none : HasNoInteger (IsInGap c.args.parts (opposite_cap c.args.down.now) c.args.up.now)
  none =
      let fits : SFits w128 c.args.parts = search rules in
      none_above c.args.parts c.args.down.now c.args.up.now c.requires.positive c.see_kept.ensures.positive c.see_kept-2.ensures.positive
      (subst (λ (p : ℤ). HasNoWhole p c.args.down.now c.args.up.now) (to_z-of_z w128 c.args.parts fits) c.in-None.ensures)

pub gap_pick-requires-clause-some : goal.gap_pick-requires-clause-some
gap_pick-requires-clause-some c =
    let fits : SFits w128 c.args.parts = search rules in
    subst (λ (p : ℤ). HasMember (IsInGap p c.opposite_cap.result c.args.up.now)) (sym (to_z-of_z w128 c.args.parts fits))
    (subst (λ (k : Cap). HasMember (IsInGap c.args.parts k c.args.up.now)) (sym c.opposite_cap.ensures) (some c))

pub gap_pick-requires-clause-no_integer : goal.gap_pick-requires-clause-no_integer
gap_pick-requires-clause-no_integer c =
    let fits : SFits w128 c.args.parts = search rules in
    subst (λ (p : ℤ). HasNoInteger (IsInGap p c.opposite_cap.result c.args.up.now)) (sym (to_z-of_z w128 c.args.parts fits))
    (subst (λ (k : Cap). HasNoInteger (IsInGap c.args.parts k c.args.up.now)) (sym c.opposite_cap.ensures) (none c))

pub returns-in-Some : goal.returns-in-Some
returns-in-Some c =
    let fits : SFits w128 c.args.parts = search rules in
    let n = c.in-Some.number in
    let number_fits : SFits w128 n = search rules in
    let (least, under) = subst (λ (p : ℤ). IsLeastWhole p c.args.down.now n × IsUnder p (Some c.args.up.now) (whole n)) (to_z-of_z w128 c.args.parts fits) c.in-Some.ensures in
    whole_pick (IsBetween c.args.parts (record { up = Some c.args.up.now; down = Some c.args.down.now })) c.whole.result n
    (c.whole.ensures ∙ ap whole (to_z-of_z w128 n number_fits))
    (above_whole c.args.parts c.args.down.now (Some c.args.up.now) c.requires.positive c.see_kept.ensures.positive c.see_kept-2.ensures.positive n least under)

pub returns-in-None : goal.returns-in-None
returns-in-None c =
    let fits : SFits w128 c.args.parts = search rules in
    let said = subst (λ (k : Cap). IsPickOf (IsInGap c.args.parts k c.args.up.now) c.gap_pick.result) c.opposite_cap.ensures
    (subst (λ (p : ℤ). IsPickOf (IsInGap p c.opposite_cap.result c.args.up.now) c.gap_pick.result) (to_z-of_z w128 c.args.parts fits) c.gap_pick.ensures) in
    pick_of_same (IsInGap c.args.parts (opposite_cap c.args.down.now) c.args.up.now) (IsBetween c.args.parts (record { up = Some c.args.up.now; down = Some c.args.down.now }))
    (from_gap c.args.parts c.args.down.now c.args.up.now c.requires.positive c.see_kept.ensures.positive c.see_kept-2.ensures.positive)
    (to_gap c.args.parts c.args.down.now c.args.up.now c.requires.positive c.see_kept.ensures.positive c.see_kept-2.ensures.positive)
    c.gap_pick.result said
