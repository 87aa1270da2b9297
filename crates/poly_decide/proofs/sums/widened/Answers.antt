use Rattle.std.proofs.Common.{◌≡◌, ◌∙◌, ◌∷◌, ap, pos, SFits, rules}
use Rattle.std.specs.Int.{w128}
use Rattle.std.proofs.lemmas.Int.{to_z-of_z}
use Rattle.poly_specs.specs.Elimination.{divided}
use Rattle.poly_decide.proofs.DividedLemmas.{zero_front_divided, made_with_front}
use Rattle.poly_decide.proofs.sums.widened.Goals as goal

pub returns : goal.returns
returns c =
    let fits : SFits w128 c.cst.result = search rules in
    let made : c.make_as.result ≡ divided (record { coef = c.as_slice.result.now; cst = c.cst.result; strict = c.strict.result }) = simp (to_z-of_z, fits) at c.make_as.ensures in
    made_with_front (pos 0) c.args.row.now c.make_as.result c.as_slice.result.now c.cst.result c.strict.result
    (zero_front_divided c.args.row.now c.cst.ensures.kept.lowest_terms) made
    (c.as_slice.ensures ∙ c.in_front-coef.ensures ∙ ap (λ cs. pos 0 ∷ cs) c.coef.ensures.value) c.cst.ensures.value c.strict.ensures.value
