use Rattle.std.proofs.Common.{◌≡◌, ◌∙◌, ◌∷◌, ap, false, refl, negsuc, SFits, rules}
use Rattle.std.specs.Int.{w128}
use Rattle.std.proofs.lemmas.Int.{to_z-of_z}
use Rattle.poly_specs.specs.Elimination.{divided}
use Rattle.poly_specs.specs.Rows.{Row}
use Rattle.poly_decide.proofs.DividedLemmas.{minus_front_divided, made_with_front}
use Rattle.poly_decide.proofs.sums.down_to_sum.Goals as goal

pub returns : goal.returns
returns c =
    let fits : SFits w128 c.cst.result = search rules in
    let made : c.make.result ≡ divided (record { coef = c.as_slice.result.now; cst = c.cst.result; strict = false }) = simp (to_z-of_z, fits) at c.make.ensures in
    let closed : Row = record { coef = c.args.row.now.coef; cst = c.args.row.now.cst; strict = false } in
    made_with_front (negsuc 0) closed c.make.result c.as_slice.result.now c.cst.result false (minus_front_divided closed) made
    (c.as_slice.ensures ∙ c.in_front-coef.ensures ∙ ap (λ cs. negsuc 0 ∷ cs) c.coef.ensures.value) c.cst.ensures.value refl
