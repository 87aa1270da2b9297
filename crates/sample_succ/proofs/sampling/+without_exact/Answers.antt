use Rattle.std.proofs.Common.{◌≡◌, ◌+◌, ◌-◌, suc, Err, ap, arith, rules, subst}
use Rattle.std.proofs.lemmas.Result.{IfOk-weaker}
use Rattle.fm_eliminate.specs.declared.RowFault.TheVariants.{Passes}
use Rattle.poly_specs.specs.Rows.{AllWide}
use Rattle.run_specs.specs.Automaton.{width}
use Rattle.run_specs.specs.Stages.{seen_exactly}
use Rattle.sample_succ.proofs.PlainLemmas.{first_passes, rest_passes, plain_step}
use Rattle.sample_succ.proofs.sampling.+without_exact.Goals as goal

pub returns-in_err-left-clause-passes : goal.returns-in_err-left-clause-passes
returns-in_err-left-clause-passes t c e =
    let same : c.in_err-left.field-0.0 ≡ Passes = search rules in
    let next : suc (c.args.n - 1) ≡ c.args.n = (let h = c.if-n-eq0.false in omega (arith, h)) in
    first_passes (seen_exactly c.args.a.now c.args.seen.now) c.args.n (c.args.n - 1) c.args.system.rows next (c.in_err-left.ensures.passes (ap (λ f. Err f) same))

pub returns-clause-plain : goal.returns-clause-plain
returns-clause-plain t c =
    let w = width c.args.a.now + 1 in
    let next : suc (c.args.n - 1) ≡ c.args.n = (let h = c.if-n-eq0.false in omega (arith, h)) in
    let within = c.requires.within in
    let wide : AllWide w c.args.system.rows = subst (λ n. AllWide n c.args.system.rows) c.requires.wide c.width.ensures.kept.wide in
    let left_wide : AllWide w c.in_ok-left.left.rows = subst (λ n. AllWide n c.in_ok-left.left.rows) c.in_ok-left.ensures.wide c.width-2.ensures.kept.wide in
    IfOk-weaker c.without_exact.result _ _
    (λ s h. plain_step (seen_exactly c.args.a.now c.args.seen.now) c.args.n (c.args.n - 1) c.args.system.rows next w c.in_ok-left.left.rows s.rows (omega (arith, within)) wide left_wide c.in_ok-left.ensures.plain h)
    c.without_exact.ensures.plain

pub returns-clause-passes : goal.returns-clause-passes
returns-clause-passes t c e =
    let next : suc (c.args.n - 1) ≡ c.args.n = (let h = c.if-n-eq0.false in omega (arith, h)) in
    rest_passes (seen_exactly c.args.a.now c.args.seen.now) c.args.n (c.args.n - 1) c.args.system.rows next c.in_ok-left.left.rows c.in_ok-left.ensures.plain.among (c.without_exact.ensures.passes e)
