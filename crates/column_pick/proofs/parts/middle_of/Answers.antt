use Rattle.std.proofs.Common.{◌≡◌, SFits, rules, subst, to_z, of_z}
use Rattle.std.specs.Int.{w128}
use Rattle.std.proofs.lemmas.Int.{to_z-of_z}
use Rattle.poly_specs.specs.Arithmetic.{lowest}
use Rattle.poly_specs.specs.Bits.{NonePasses}
use Rattle.poly_specs.specs.Pickings.{lowest_numbers}
use Rattle.column_pick.specs.Ranges.{parted}
use Rattle.column_pick.proofs.PartedLemmas.{no_low, no_high, middle_formed}
use Rattle.column_pick.proofs.parts.middle_of.Goals as goal

pub returns-in_err-low : goal.returns-in_err-low
returns-in_err-low c =
    let fits : SFits w128 c.args.parts = search rules in
    let whole : to_z w128 (of_z w128 c.args.parts) ≡ c.args.parts = to_z-of_z w128 c.args.parts fits in
    let none = subst (λ d. NonePasses (lowest_numbers (parted d c.args.low.now)) → ⊥) whole c.in_err-low.ensures in
    no_low c.from_residual.result (parted c.args.parts c.args.low.now) (parted c.args.parts c.args.high.now) c.from_residual.ensures none

pub returns-in_err-high : goal.returns-in_err-high
returns-in_err-high c =
    let fits : SFits w128 c.args.parts = search rules in
    let whole : to_z w128 (of_z w128 c.args.parts) ≡ c.args.parts = to_z-of_z w128 c.args.parts fits in
    let low = subst (λ d. NonePasses (lowest_numbers (parted d c.args.low.now))) whole c.in_ok-low.ensures.0 in
    let none = subst (λ d. NonePasses (lowest_numbers (parted d c.args.high.now)) → ⊥) whole c.in_err-high.ensures in
    no_high c.from_residual-in_err-high.result (parted c.args.parts c.args.low.now) (parted c.args.parts c.args.high.now) c.from_residual-in_err-high.ensures low none

pub returns : goal.returns
returns c =
    let fits : SFits w128 c.args.parts = search rules in
    let whole : to_z w128 (of_z w128 c.args.parts) ≡ c.args.parts = to_z-of_z w128 c.args.parts fits in
    let low = subst (λ d. NonePasses (lowest_numbers (parted d c.args.low.now))) whole c.in_ok-low.ensures.0 in
    let low_is = subst (λ d. c.in_ok-low.low ≡ lowest (parted d c.args.low.now)) whole c.in_ok-low.ensures.1 in
    let high = subst (λ d. NonePasses (lowest_numbers (parted d c.args.high.now))) whole c.in_ok-high.ensures.0 in
    let high_is = subst (λ d. c.in_ok-high.high ≡ lowest (parted d c.args.high.now)) whole c.in_ok-high.ensures.1 in
    middle_formed c.half_of_sum.result (parted c.args.parts c.args.low.now) (parted c.args.parts c.args.high.now) c.in_ok-low.low c.in_ok-high.high
    low low_is high high_is c.half_of_sum.ensures
