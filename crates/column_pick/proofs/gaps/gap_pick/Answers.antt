use Rattle.std.proofs.Common.{ℤ, SFits, SomeIff, rules, subst}
use Rattle.std.specs.Int.{w128}
use Rattle.std.proofs.lemmas.Int.{to_z-of_z}
use Rattle.poly_specs.specs.Arithmetic.{lowest}
use Rattle.poly_specs.specs.Bits.{NonePasses}
use Rattle.poly_specs.specs.Pickings.{lowest_numbers, middle_numbers}
use Rattle.column_pick.specs.Ranges.{parted, least_middle}
use Rattle.column_pick.proofs.GapLemmas.{end_pick_of, middle_pick_of}
use Rattle.column_pick.proofs.gaps.gap_pick.Goals as goal

pub returns-in-Some : goal.returns-in-Some
returns-in-Some c =
    let fits : SFits w128 c.args.parts = search rules in
    let end = c.in-Some.end in
    let said = subst (λ (p : ℤ). SomeIff c.parted.result (NonePasses (lowest_numbers (parted p end))) (lowest (parted p end))) (to_z-of_z w128 c.args.parts fits) c.parted.ensures in
    end_pick_of c.args.parts c.args.low.now c.args.high.now c.requires.positive c.see_kept.ensures.positive c.see_kept-2.ensures.positive c.requires.some c.requires.no_integer
    c.args.above end c.parted.result c.see_kept-in-Some.ensures.positive c.requires.side c.in-Some.ensures said

pub returns-in-None : goal.returns-in-None
returns-in-None c =
    let fits : SFits w128 c.args.parts = search rules in
    let said = subst (λ (p : ℤ). SomeIff c.middle_of.result (NonePasses (middle_numbers (parted p c.args.low.now.end) (parted p c.args.high.now.end))) (least_middle (parted p c.args.low.now.end) (parted p c.args.high.now.end)))
    (to_z-of_z w128 c.args.parts fits) c.middle_of.ensures in
    middle_pick_of c.args.parts c.args.low.now c.args.high.now c.requires.positive c.see_kept.ensures.positive c.see_kept-2.ensures.positive c.requires.some c.requires.no_integer
    c.args.above c.middle_of.result c.requires.side c.in-None.ensures.0 c.in-None.ensures.1 said
