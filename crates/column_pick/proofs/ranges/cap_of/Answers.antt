use Rattle.std.proofs.Common.{◌≡◌, ◌∙◌, ap, neg_ℤ, SFits, rules}
use Rattle.std.specs.Int.{w128}
use Rattle.std.proofs.lemmas.Int.{to_z-of_z}
use Rattle.poly_specs.specs.Arithmetic.{lowest}
use Rattle.column_pick.proofs.RangeLemmas.{line_cap}
use Rattle.column_pick.proofs.ranges.cap_of.Goals as goal

pub returns : goal.returns
returns c =
    let num_fits : SFits w128 c.negated.result = search rules in
    let lead_fits : SFits w128 c.args.lead = search rules in
    let cst_fits : SFits w128 c.args.cst = search rules in
    let num : c.negated.result ≡ neg_ℤ c.args.cst = simp (to_z-of_z, cst_fits) at c.negated.ensures.value in
    let made : c.make.result ≡ lowest (record { num = c.negated.result; den = c.args.lead }) = simp (to_z-of_z, num_fits, lead_fits) at c.make.ensures in
    line_cap c.args.lead c.args.cst c.args.strict c.make.result c.requires.positive (made ∙ ap (λ n. lowest (record { num = n; den = c.args.lead })) num)
