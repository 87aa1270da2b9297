use Rattle.std.proofs.Common.{◌≡◌, ◌∙◌, ap, neg_ℤ, SFits, rules}
use Rattle.std.specs.Int.{w128}
use Rattle.std.proofs.lemmas.Int.{to_z-of_z}
use Rattle.poly_specs.specs.Arithmetic.{lowest}
use Rattle.poly_decide.proofs.CapLemmas.{root, row_cap_at}
use Rattle.poly_decide.proofs.caps.cap_of.Goals as goal

pub returns : goal.returns
returns c =
    let cst_fits : SFits w128 c.cst.result = search rules in
    let lead_fits : SFits w128 c.lead.result = search rules in
    let first : c.root.result ≡ lowest (record { num = neg_ℤ c.cst.result; den = c.lead.result }) = simp (to_z-of_z, cst_fits, lead_fits) at c.root.ensures in
    let same : c.root.result ≡ lowest (root c.args.row.now) =
    first ∙ ap (λ z. lowest (record { num = neg_ℤ z; den = c.lead.result })) c.cst.ensures.value
    ∙ ap (λ d. lowest (record { num = neg_ℤ c.args.row.now.cst; den = d })) c.lead.ensures in
    row_cap_at c.args.row.now c.root.result c.strict.result c.requires.positive same c.strict.ensures.value
