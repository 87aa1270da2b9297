use Rattle.std.proofs.Common.{◌≡◌, Err, ap, rules, subst, ◌∙◌, List, Option}
use Rattle.std.specs.Prelude.{IfOk}
use Rattle.std.proofs.lemmas.Result.{IfOk-weaker}
use Rattle.fm_eliminate.specs.declared.RowFault.TheVariants.{Passes}
use Rattle.poly_specs.specs.Bits.{SomePasses}
use Rattle.poly_specs.specs.Fractions.{Fraction}
use Rattle.poly_specs.specs.Rows.{Row}
use Rattle.run_specs.specs.Automaton.{Automaton}
use Rattle.run_specs.specs.Stages.{Stage, rows_after, stage_numbers}
use Rattle.run_specs.specs.Stages as stages
use Rattle.sample_succ.specs.Plain.{IsLeft}
use Rattle.sample_succ.proofs.stepping.sample.Goals as goal

-- the stage, of equal parts
same_stage : (a b : Automaton) (g h : Fraction) (xs ys : List (Option Fraction)) (rows : List Row) → a ≡ b → g ≡ h → xs ≡ ys → stages.sample_stage a g xs rows ≡ stages.sample_stage b h ys rows
same_stage a b g h xs ys rows e f k = ap (λ c. stages.sample_stage c g xs rows) e ∙ ap (λ d. stages.sample_stage b d xs rows) f ∙ ap (λ zs. stages.sample_stage b h zs rows) k

pub returns-in_err-system-clause-passes : goal.returns-in_err-system-clause-passes
returns-in_err-system-clause-passes c e =
    let same : c.in_err-system.field-0.0 ≡ Passes = search rules in
    subst (λ s. SomePasses (stage_numbers s))
    (same_stage c.automaton_of-a.result.now c.args.key.now.automaton c.gap-gap.result.now c.args.key.now.gap c.seen-seen.result.now c.args.key.now.seen c.args.before.now.rows c.automaton_of-a.ensures.value c.gap-gap.ensures.value c.seen-seen.ensures.value)
    (c.in_err-system.ensures.passes (ap (λ f. Err f) same))

pub returns-clause-ok : goal.returns-clause-ok
returns-clause-ok c =
    let s : Stage = stages.sample_stage c.automaton_of-a.result.now c.gap-gap.result.now c.seen-seen.result.now c.args.before.now.rows in
    subst (λ t. IfOk c.if_any.result (λ o. IsLeft t o))
    (same_stage c.automaton_of-a.result.now c.args.key.now.automaton c.gap-gap.result.now c.args.key.now.gap c.seen-seen.result.now c.args.key.now.seen c.args.before.now.rows c.automaton_of-a.ensures.value c.gap-gap.ensures.value c.seen-seen.ensures.value)
    (IfOk-weaker c.if_any.result _ _ (λ o h. h s c.in_ok-system.ensures.wide c.in_ok-system.ensures.plain) c.if_any.ensures.ok)

pub returns-clause-passes : goal.returns-clause-passes
returns-clause-passes c e =
    let s : Stage = stages.sample_stage c.automaton_of-a.result.now c.gap-gap.result.now c.seen-seen.result.now c.args.before.now.rows in
    subst (λ t. SomePasses (stage_numbers t))
    (same_stage c.automaton_of-a.result.now c.args.key.now.automaton c.gap-gap.result.now c.args.key.now.gap c.seen-seen.result.now c.args.key.now.seen c.args.before.now.rows c.automaton_of-a.ensures.value c.gap-gap.ensures.value c.seen-seen.ensures.value)
    (c.if_any.ensures.passes e s c.in_ok-system.ensures.wide c.in_ok-system.ensures.plain.among)
