use Rattle.std.proofs.Common.{◌≡◌, Err, ap, rules, subst}
use Rattle.std.specs.Prelude.{MatchBool}
use Rattle.fm_eliminate.specs.declared.RowFault.TheVariants.{Passes}
use Rattle.poly_specs.specs.Rows.{HasPoint}
use Rattle.sample_succ.proofs.StepLemmas.{test_of, no_point_of}
use Rattle.sample_succ.proofs.stepping.if_any.Goals as goal

pub returns-in_err-is_empty-clause-passes : goal.returns-in_err-is_empty-clause-passes
returns-in_err-is_empty-clause-passes c e s w among =
    let same : c.in_err-is_empty.field-0.0 ≡ Passes = search rules in
    test_of s c.args.system w among (c.in_err-is_empty.ensures.passes (ap (λ f. Err f) same))

pub returns-then-branch-clause-ok : goal.returns-then-branch-clause-ok
returns-then-branch-clause-ok c s w plain =
    no_point_of s c.args.system w plain
    (subst (λ b. MatchBool b (HasPoint c.args.system.width c.args.system.rows → ⊥) (HasPoint c.args.system.width c.args.system.rows)) c.if-branch.true c.in_ok-is_empty.ensures.ok)

pub returns-clause-ok : goal.returns-clause-ok
returns-clause-ok c s w plain =
    let point = subst (λ b. MatchBool b (HasPoint c.args.system.width c.args.system.rows → ⊥) (HasPoint c.args.system.width c.args.system.rows)) c.if-branch.false c.in_ok-is_empty.ensures.ok in
    (w, plain, subst (λ n. HasPoint n c.args.system.rows) w point)
