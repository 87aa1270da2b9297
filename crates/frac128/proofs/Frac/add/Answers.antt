use Rattle.std.proofs.Common.{◌≡◌, refl, ◌∙◌, rules, SFits}
use Rattle.std.specs.Int.{w128}
use Rattle.std.proofs.lemmas.Int.{to_z-of_z}
use Rattle.poly_specs.specs.Arithmetic.{lowest}
use Rattle.frac128.proofs.Frac.add.Goals as goal

pub returns : goal.returns
returns c =
    let num : SFits w128 c.in_ok-num.num = search rules in
    let den : SFits w128 c.in_ok-num.den = search rules in
    let made : c.make.result ≡ lowest (record { num = c.in_ok-num.num; den = c.in_ok-num.den }) = simp (to_z-of_z, num, den) at c.make.ensures in
    (c.in_ok-num.ensures.kept.0 refl, made ∙ c.in_ok-num.ensures.sum.same)
