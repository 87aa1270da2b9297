use Rattle.std.proofs.Common.{ℤ, SFits, rules, subst}
use Rattle.std.specs.Int.{w128}
use Rattle.std.proofs.lemmas.Int.{to_z-of_z}
use Rattle.poly_specs.specs.LowestTerms.{IsLowest}
use Rattle.poly_specs.specs.Picks.{IsPick}
use Rattle.column_pick.specs.RangePicks.{FormingPasses}
use Rattle.column_pick.specs.Ranges.{IsBetween}
use Rattle.column_pick.proofs.nexts.pick_within.Goals as goal

pub returns-in-None-clause-passes : goal.returns-in-None-clause-passes
returns-in-None-clause-passes c e =
    let fits : SFits w128 c.args.parts = search rules in
    subst (λ (p : ℤ). FormingPasses (IsBetween p c.args.range.now)) (to_z-of_z w128 c.args.parts fits) c.in-None.ensures

pub returns-in-Some-clause-ok : goal.returns-in-Some-clause-ok
returns-in-Some-clause-ok c =
    let fits : SFits w128 c.args.parts = search rules in
    subst (λ (p : ℤ). IsLowest c.in-Some.number × IsPick (IsBetween p c.args.range.now) c.in-Some.number) (to_z-of_z w128 c.args.parts fits) c.in-Some.ensures
