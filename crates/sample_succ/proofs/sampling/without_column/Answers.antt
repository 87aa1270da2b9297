use Rattle.std.proofs.Common.{◌≡◌, ◌+◌, true, sym, subst, arith, ◌∙◌}
use Rattle.std.proofs.lemmas.Result.{IfOk-weaker}
use Rattle.poly_specs.specs.Elimination.{eliminated_each}
use Rattle.poly_specs.specs.Rows.{AllWide}
use Rattle.poly_specs.specs.Systems.{IsProjection}
use Rattle.run_specs.specs.Automaton.{width}
use Rattle.run_specs.specs.Stages.{seen_exactly}
use Rattle.sample_succ.specs.Plain.{IsPlain}
use Rattle.sample_succ.proofs.PlainLemmas.{free_left, plain_projection, one_column}
use Rattle.sample_succ.proofs.sampling.without_column.Goals as goal

pub returns-clause-free : goal.returns-clause-free
returns-clause-free c =
    let m = width c.args.a.now in
    let rows = c.args.system.rows in
    let x = c.args.x in
    let wide : AllWide (m + 1) rows = subst (λ n. AllWide n rows) c.requires.wide c.width.ensures.kept.wide in
    IfOk-weaker c.eliminate.result _ _
    (λ s h. free_left (m + 1) x m rows s.rows (omega arith) wide c.requires.free (subst (λ n. IsProjection n x rows s.rows) c.requires.wide h.1)) c.eliminate.ensures.ok

pub returns-clause-plain : goal.returns-clause-plain
returns-clause-plain c =
    let m = width c.args.a.now in
    let rows = c.args.system.rows in
    let x = c.args.x in
    let p = seen_exactly c.args.a.now c.args.seen.now in
    let wide : AllWide (m + 1) rows = subst (λ n. AllWide n rows) c.requires.wide c.width.ensures.kept.wide in
    let within = c.requires.within in
    let exact : p x ≡ true = sym c.is_exact.ensures ∙ c.if-not-is_exact.false in
    IfOk-weaker c.eliminate.result _ _
    (λ s h. subst (λ cols. IsPlain (m + 1) s.rows (eliminated_each cols rows)) (sym (one_column p x exact))
    (plain_projection (m + 1) x rows s.rows (omega (arith, within)) wide (subst (λ n. IsProjection n x rows s.rows) c.requires.wide h.1))) c.eliminate.ensures.ok
