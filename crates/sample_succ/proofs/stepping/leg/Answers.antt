use Rattle.std.proofs.Common.{◌≡◌, ◌+◌, ◌<◌, Err, length, ap, rules, sym, subst, ◌∙◌}
use Rattle.std.specs.Prelude.{IfOk}
use Rattle.std.proofs.lemmas.Result.{IfOk-weaker}
use Rattle.fm_eliminate.specs.declared.RowFault.TheVariants.{Passes}
use Rattle.poly_specs.specs.Bits.{SomePasses}
use Rattle.poly_specs.specs.Rows.{AllWide}
use Rattle.run_specs.specs.Automaton.{width}
use Rattle.run_specs.specs.Stages.{leg_stage, stage_numbers}
use Rattle.run_specs.specs.WellFormed.{IsWellFormed}
use Rattle.sample_succ.specs.Plain.{IsLeft}
use Rattle.sample_succ.proofs.PlainLemmas.{formed_pass}
use Rattle.sample_succ.proofs.StepLemmas.{leg_left}
use Rattle.sample_succ.proofs.stepping.leg.Goals as goal

pub returns-in_err-system-clause-passes : goal.returns-in_err-system-clause-passes
returns-in_err-system-clause-passes c e =
    let same : c.in_err-system.field-0.0 ≡ Passes = search rules in
    subst (λ b. SomePasses (stage_numbers (leg_stage b c.args.loc c.args.before.now.rows))) c.automaton_of-a.ensures.value
    (formed_pass (leg_stage c.automaton_of-a.result.now c.args.loc c.args.before.now.rows) (c.in_err-system.ensures.passes (ap (λ f. Err f) same)))

pub returns-clause-ok : goal.returns-clause-ok
returns-clause-ok c =
    let a = c.automaton_of-a.result.now in
    let l = c.args.loc in
    let rows = c.args.before.now.rows in
    let s = c.in_ok-system.system in
    let same = c.automaton_of-a.ensures.value in
    let wf : IsWellFormed a = subst IsWellFormed (sym same) c.automaton_of-a.ensures.limits in
    let known : l < length a.locations = subst (λ b. l < length b.locations) (sym same) c.requires.known in
    let wide : AllWide (width a + 1) rows = subst (λ n. AllWide n rows) (c.requires.wide ∙ ap (λ b. width b + 1) (sym same)) c.width.ensures.kept.wide in
    let plain = leg_left a l rows s.rows wf known wide c.in_ok-system.ensures.exact c.in_ok-system.ensures.plain in
    subst (λ b. IfOk c.if_any.result (λ o. IsLeft (leg_stage b l rows) o)) same (IfOk-weaker c.if_any.result _ _ (λ o h. h (leg_stage a l rows) c.in_ok-system.ensures.wide plain) c.if_any.ensures.ok)

pub returns-clause-passes : goal.returns-clause-passes
returns-clause-passes c e =
    let same = c.automaton_of-a.ensures.value in
    subst (λ b. SomePasses (stage_numbers (leg_stage b c.args.loc c.args.before.now.rows))) same
    (c.if_any.ensures.passes e (leg_stage c.automaton_of-a.result.now c.args.loc c.args.before.now.rows) c.in_ok-system.ensures.wide c.in_ok-system.ensures.plain)
