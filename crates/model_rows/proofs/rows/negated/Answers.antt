use Rattle.std.proofs.Common.{◌≡◌, ◌∙◌, List, map, ℤ, neg_ℤ, ap, sym, subst, to_z, of_z, SFits, rules}
use Rattle.std.specs.Int.{w128}
use Rattle.std.proofs.lemmas.Int.{to_z-of_z}
use Rattle.std.specs.Prelude.{All}
use Rattle.poly_specs.specs.Bits.{FitsBits}
use Rattle.model_rows.proofs.RowLemmas.{fit_neg, negated_is, divided_same}
use Rattle.model_rows.proofs.rows.negated.Goals as goal

pub make_as-requires-clause-coef_fits : goal.make_as-requires-clause-coef_fits
make_as-requires-clause-coef_fits c =
    subst (λ (zs : List ℤ). All FitsBits zs) (sym (c.as_slice.ensures ∙ c.opposites-turned.ensures))
    (fit_neg c.coef.result.now (subst (λ (zs : List ℤ). All FitsBits zs) (sym c.coef.ensures.value) c.coef.ensures.kept.coef_fits))

pub returns : goal.returns
returns c =
    let row = c.args.row.now in
    let coef : c.as_slice.result.now ≡ map neg_ℤ row.coef = c.as_slice.ensures ∙ c.opposites-turned.ensures ∙ ap (map neg_ℤ) c.coef.ensures.value in
    let first : SFits w128 c.cst.result = search rules in
    let second : SFits w128 c.opposite.result = search rules in
    let cst : to_z w128 (of_z w128 c.opposite.result) ≡ neg_ℤ row.cst =
    to_z-of_z w128 c.opposite.result second ∙ c.opposite.ensures ∙ ap neg_ℤ (to_z-of_z w128 c.cst.result first ∙ c.cst.ensures.value) in
    c.make_as.ensures ∙ divided_same _ _ _ _ _ _ coef cst c.strict.ensures.value ∙ negated_is row c.coef.ensures.kept.lowest_terms
