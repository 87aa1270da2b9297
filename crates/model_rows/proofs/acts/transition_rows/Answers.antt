use Rattle.std.proofs.Common.{◌∙◌, ◌+◌, length, ap, sym}
use Rattle.std.specs.List.{flat_map}
use Rattle.model_specs.specs.Constraints.{comparison_rows}
use Rattle.model_rows.specs.Passing.{comparisons_pass}
use Rattle.model_rows.proofs.ComparisonLemmas.{ok_then}
use Rattle.model_rows.proofs.acts.transition_rows.Goals as goal

pub returns-clause-ok : goal.returns-clause-ok
returns-clause-ok c =
    let m = length c.args.vars.now in
    ok_then c.rows_of.result _ _ c.rows_of.ensures.ok (λ v e. e ∙ ap (flat_map (comparison_rows (m + m))) (c.as_slice.ensures.value ∙ c.in_ok-said.ensures))

pub returns-clause-kept : goal.returns-clause-kept
returns-clause-kept c =
    let m = length c.args.vars.now in
    ok_then c.rows_of.result _ _ c.rows_of.ensures.kept (λ v e. ap (comparisons_pass (m + m)) (sym (c.as_slice.ensures.value ∙ c.in_ok-said.ensures)) ∙ e)

pub returns-clause-passes : goal.returns-clause-passes
returns-clause-passes c e =
    let m = length c.args.vars.now in
    ap (comparisons_pass (m + m)) (sym (c.as_slice.ensures.value ∙ c.in_ok-said.ensures)) ∙ c.rows_of.ensures.passes e
