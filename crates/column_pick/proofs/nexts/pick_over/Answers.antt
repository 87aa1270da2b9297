use Rattle.std.proofs.Common.{◌∙◌, ◌≡◌, inr, ℤ, SFits, rules, subst, to_z, of_z}
use Rattle.std.specs.Int.{w128}
use Rattle.std.specs.Prelude.{IfOk}
use Rattle.std.proofs.lemmas.Int.{to_z-of_z}
use Rattle.poly_specs.proofs.SetLemmas.{Within}
use Rattle.poly_specs.specs.LowestTerms.{IsLowest}
use Rattle.poly_specs.specs.Picks.{IsPick}
use Rattle.column_pick.specs.RangePicks.{FormingPasses}
use Rattle.column_pick.specs.Ranges.{IsBetween, AreWithin}
use Rattle.column_pick.proofs.BetweenLemmas.{ok_same, forming_same}
use Rattle.column_pick.proofs.nexts.pick_over.Goals as goal

module _ (c : goal.After-pick_within) where
  parts_are : to_z w128 (of_z w128 c.den.result) ≡ c.args.point.now.den
  parts_are = let fits : SFits w128 c.den.result = search rules in to_z-of_z w128 c.den.result fits ∙ c.den.ensures.value

  to : Within (IsBetween c.args.point.now.den c.in-Some.range) (AreWithin c.args.x c.args.point.now c.args.rows.now)
  to v hv b = (c.in-Some.ensures.some v hv).0 b

  back : Within (AreWithin c.args.x c.args.point.now c.args.rows.now) (IsBetween c.args.point.now.den c.in-Some.range)
  back v hv w = (c.in-Some.ensures.some v hv).1 w

pub returns-in-Some-clause-ok : goal.returns-in-Some-clause-ok
returns-in-Some-clause-ok c =
    let said = subst (λ (p : ℤ). IfOk c.pick_within.result (λ v. IsLowest v × IsPick (IsBetween p c.in-Some.range) v)) (parts_are c) c.pick_within.ensures.ok in
    ok_same (IsBetween c.args.point.now.den c.in-Some.range) (AreWithin c.args.x c.args.point.now c.args.rows.now) (to c) (back c) c.pick_within.result said

pub returns-in-Some-clause-passes : goal.returns-in-Some-clause-passes
returns-in-Some-clause-passes c e =
    let said = subst (λ (p : ℤ). FormingPasses (IsBetween p c.in-Some.range)) (parts_are c) (c.pick_within.ensures.passes e) in
    inr (forming_same (IsBetween c.args.point.now.den c.in-Some.range) (AreWithin c.args.x c.args.point.now c.args.rows.now) (to c) (back c) said)
