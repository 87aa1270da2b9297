use Rattle.std.proofs.Common.{◌∙◌, sym}
use Rattle.model_rows.proofs.ComparisonLemmas.{ok_then, rows_of_constraints, constraints_passing}
use Rattle.model_rows.proofs.comparisons.constraint_rows.Goals as goal

pub returns-clause-ok : goal.returns-clause-ok
returns-clause-ok c =
    ok_then c.rows_of.result _ _ c.rows_of.ensures.ok
    (λ v e. e ∙ rows_of_constraints c.args.vars.now c.args.width c.args.rows.now c.as_slice.result.now (c.as_slice.ensures.value ∙ c.in_ok-said.ensures))

pub returns-clause-kept : goal.returns-clause-kept
returns-clause-kept c =
    ok_then c.rows_of.result _ _ c.rows_of.ensures.kept
    (λ v e. sym (constraints_passing c.args.vars.now c.args.width c.args.rows.now c.as_slice.result.now (c.as_slice.ensures.value ∙ c.in_ok-said.ensures)) ∙ e)

pub returns-clause-passes : goal.returns-clause-passes
returns-clause-passes c e =
    sym (constraints_passing c.args.vars.now c.args.width c.args.rows.now c.as_slice.result.now (c.as_slice.ensures.value ∙ c.in_ok-said.ensures))
    ∙ c.rows_of.ensures.passes e
