use Rattle.std.proofs.Common.{◌∙◌, rules, SFits, sym, true≢false}
use Rattle.std.specs.Int.{w128}
use Rattle.std.proofs.lemmas.Int.{to_z-of_z}
use Rattle.poly_specs.specs.Fractions.{Fraction}
use Rattle.run_check.proofs.NearLemmas.{near_says, near_blank, near_passes, near_fails, near_met}
use Rattle.run_check.proofs.ends.value_is_near.Goals as goal

pub returns-in_default : goal.returns-in_default
returns-in_default c = near_blank c.args.tolerance.now c.args.cell.now (record { num = c.args.num; den = c.args.den }) c.in_default.is

pub returns-in_default-band : goal.returns-in_default-band
returns-in_default-band c =
    near_passes c.args.tolerance.now c.args.cell.now (record { num = c.args.num; den = c.args.den }) c.in-Some.value c.in-Some.is c.in_default-band.ensures

pub returns-then-not-is_between : goal.returns-then-not-is_between
returns-then-not-is_between c =
    let num : SFits w128 c.args.num = search rules in
    let den : SFits w128 c.args.den = search rules in
    let x : Fraction = record { num = c.args.num; den = c.args.den } in
    let value = rw c.in-Some.is at c.requires.cell_fraction in
    let said =
    near_says c.in-Some.value c.args.tolerance.now x c.make.result _ _ c.is_between.result value c.requires.tolerance_fraction c.requires.positive
    (simp (to_z-of_z, num, den) at c.make.ensures) c.in-Some-band.ensures.1 c.in-Some-band.ensures.2 c.is_between.ensures in
    near_fails c.args.tolerance.now c.args.cell.now x c.in-Some.value c.in-Some.is c.in-Some-band.ensures.0
    (λ d. true≢false (sym (said.1 d) ∙ c.if-not-is_between.true))

pub returns : goal.returns
returns c =
    let num : SFits w128 c.args.num = search rules in
    let den : SFits w128 c.args.den = search rules in
    let x : Fraction = record { num = c.args.num; den = c.args.den } in
    let value = rw c.in-Some.is at c.requires.cell_fraction in
    let said =
    near_says c.in-Some.value c.args.tolerance.now x c.make.result _ _ c.is_between.result value c.requires.tolerance_fraction c.requires.positive
    (simp (to_z-of_z, num, den) at c.make.ensures) c.in-Some-band.ensures.1 c.in-Some-band.ensures.2 c.is_between.ensures in
    near_met c.args.tolerance.now c.args.cell.now x c.in-Some.value c.in-Some.is c.in-Some-band.ensures.0 (said.0 c.if-not-is_between.false)
