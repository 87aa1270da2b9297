use Rattle.std.proofs.Common.{◌≡◌, ◌∙◌, List, Bool, ap, sym, subst}
use Rattle.poly_specs.specs.Bits.{NonePasses}
use Rattle.model_specs.specs.Constraints.{comparison_numbers, sides, is_strict}
use Rattle.model_specs.specs.Parts.{Part, row_of_parts, part_numbers}
use Rattle.model_rows.proofs.ComparisonLemmas.{ok_then}
use Rattle.model_rows.proofs.PassLemmas.{none_where_fit, some_where_not}
use Rattle.model_rows.proofs.comparisons.row_of.Goals as goal

pub returns-clause-ok : goal.returns-clause-ok
returns-clause-ok c =
    let parts : c.as_slice.result.now ≡ sides c.args.said.now.sign c.args.said.now.left c.args.said.now.right = c.as_slice.ensures.value ∙ c.in_ok-sum.ensures in
    let strict : c.is_strict.result ≡ is_strict c.args.said.now.sign = c.is_strict.ensures ∙ ap is_strict c.sign.ensures in
    ok_then c.row_of_parts.result _ _ c.row_of_parts.ensures.ok
    (λ r e. e ∙ ap (λ (b : Bool). row_of_parts c.args.width b c.as_slice.result.now) strict
    ∙ ap (λ (ps : List Part). row_of_parts c.args.width (is_strict c.args.said.now.sign) ps) parts)

pub returns-clause-kept : goal.returns-clause-kept
returns-clause-kept c =
    let parts = c.as_slice.ensures.value ∙ c.in_ok-sum.ensures in
    ok_then c.row_of_parts.result _ _ c.row_of_parts.ensures.kept
    (λ r none. none_where_fit (comparison_numbers c.args.width c.args.said.now)
    (subst (λ (ps : List Part). NonePasses (part_numbers c.args.width ps)) parts none))

pub returns-clause-passes : goal.returns-clause-passes
returns-clause-passes c e =
    let parts = c.as_slice.ensures.value ∙ c.in_ok-sum.ensures in
    some_where_not (comparison_numbers c.args.width c.args.said.now)
    (λ none. c.row_of_parts.ensures.passes e (subst (λ (ps : List Part). NonePasses (part_numbers c.args.width ps)) (sym parts) none))
