use Rattle.std.proofs.Common.{◌≡◌, ◌∙◌, ◌∷◌, map, neg_ℤ, ap, false, refl, pos, SFits, rules}
use Rattle.std.specs.Int.{w128}
use Rattle.std.proofs.lemmas.Int.{to_z-of_z}
use Rattle.poly_specs.specs.Elimination.{divided}
use Rattle.poly_specs.specs.Rows.{Row}
use Rattle.poly_decide.proofs.DividedLemmas.{one_front_divided, made_with_front}
use Rattle.poly_decide.proofs.sums.up_to_sum.Goals as goal

pub returns : goal.returns
returns c =
    let fits : SFits w128 c.opposite_of.result = search rules in
    let cst_fits : SFits w128 c.cst.result = search rules in
    let made : c.make.result ≡ divided (record { coef = c.as_slice-2.result.now; cst = c.opposite_of.result; strict = false }) = simp (to_z-of_z, fits) at c.make.ensures in
    let negative : c.opposite_of.result ≡ neg_ℤ c.cst.result = simp (to_z-of_z, cst_fits) at c.opposite_of.ensures.value in
    let closed : Row = record { coef = map neg_ℤ c.args.row.now.coef; cst = neg_ℤ c.args.row.now.cst; strict = false } in
    made_with_front (pos 1) closed c.make.result c.as_slice-2.result.now c.opposite_of.result false (one_front_divided closed) made
    (c.as_slice-2.ensures ∙ c.in_front-coef.ensures ∙ ap (λ cs. pos 1 ∷ cs) (c.as_slice.ensures ∙ c.opposites-opposite.ensures.items ∙ ap (map neg_ℤ) c.coef.ensures.value))
    (negative ∙ ap neg_ℤ c.cst.ensures.value) refl
