use Rattle.std.proofs.Common.{subst}
use Rattle.std.specs.Prelude.{MatchBool}
use Rattle.std.proofs.lemmas.Result.{IfOk-weaker}
use Rattle.poly_specs.specs.Rows.{HasPoint}
use Rattle.sample_succ.proofs.LateLemmas.{left_in_time, none_in_time, some_in_time}
use Rattle.sample_succ.proofs.stepping.if_in_time.Goals as goal

pub returns-in-Ok-true-clause-ok : goal.returns-in-Ok-true-clause-ok
returns-in-Ok-true-clause-ok c s w plain =
    let t = c.in_ok-timely.timely in
    none_in_time c.args.key.now s c.args.system t c.in_ok-timely.ensures w plain
    (subst (λ b. MatchBool b (HasPoint t.width t.rows → ⊥) (HasPoint t.width t.rows)) c.in-Ok-true.field-0-test c.in-Ok-true.ensures.ok)

pub returns-in-Ok-false-clause-ok : goal.returns-in-Ok-false-clause-ok
returns-in-Ok-false-clause-ok c s w plain =
    let t = c.in_ok-timely.timely in
    some_in_time c.args.key.now s c.args.system t c.in_ok-timely.ensures w plain
    (subst (λ b. MatchBool b (HasPoint t.width t.rows → ⊥) (HasPoint t.width t.rows)) c.in-Ok-false.field-0-test c.in-Ok-false.ensures.ok)

pub returns-in-Err-Passes-clause-ok : goal.returns-in-Err-Passes-clause-ok
returns-in-Err-Passes-clause-ok c =
    IfOk-weaker c.if_any.result _ _ (λ o h s w plain. left_in_time c.args.key.now s o (h s w plain)) c.if_any.ensures.ok
