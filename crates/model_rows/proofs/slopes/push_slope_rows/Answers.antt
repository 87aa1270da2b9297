use Rattle.std.proofs.Common.{◌∙◌, ◌+◌, ◌++◌, map, length, ap, sym}
use Rattle.model_specs.specs.Constraints.{slope_constraint}
use Rattle.model_rows.proofs.ComparisonLemmas.{on_ok_then, rows_of_slopes, slopes_passing}
use Rattle.model_rows.proofs.slopes.push_slope_rows.Goals as goal

pub returns-clause-ok : goal.returns-clause-ok
returns-clause-ok c =
    let said = c.as_slice.ensures.value ∙ c.in_ok-said.ensures ∙ ap (map (slope_constraint c.args.vars.now)) c.rows.ensures in
    on_ok_then c.push_all_rows.result _ _ c.push_all_rows.ensures.ok
    (λ e. e ∙ ap (λ rs. c.args.rows.now.items ++ rs) (rows_of_slopes c.args.vars.now c.args.tree.now.rows c.as_slice.result.now said))

pub returns-clause-kept : goal.returns-clause-kept
returns-clause-kept c =
    let said = c.as_slice.ensures.value ∙ c.in_ok-said.ensures ∙ ap (map (slope_constraint c.args.vars.now)) c.rows.ensures in
    on_ok_then c.push_all_rows.result _ _ c.push_all_rows.ensures.kept
    (λ e. sym (slopes_passing c.args.vars.now (length c.args.vars.now + 1) c.args.tree.now.rows c.as_slice.result.now said) ∙ e)

pub returns-clause-passes : goal.returns-clause-passes
returns-clause-passes c e =
    let said = c.as_slice.ensures.value ∙ c.in_ok-said.ensures ∙ ap (map (slope_constraint c.args.vars.now)) c.rows.ensures in
    sym (slopes_passing c.args.vars.now (length c.args.vars.now + 1) c.args.tree.now.rows c.as_slice.result.now said) ∙ c.push_all_rows.ensures.passes e
