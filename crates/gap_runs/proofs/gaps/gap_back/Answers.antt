use Rattle.std.proofs.Common.{◌≡◌, ◌∙◌, ◌+◌, ◌*◌, ◌-◌, Err, List, drop, length, ap, rules, subst, sym}
use Rattle.std.specs.Prelude.{All}
use Rattle.std.proofs.lemmas.List.Elements.{All-drop}
use Rattle.fm_eliminate.specs.declared.RowFault.TheVariants.{Passes}
use Rattle.poly_specs.specs.Bits.{SomePasses}
use Rattle.poly_specs.specs.Denominators.{common_nums, common_numbers}
use Rattle.poly_specs.specs.Fractions.{Fraction, IsFraction}
use Rattle.poly_specs.specs.Rows.{Point, AllHold}
use Rattle.replay_specs.specs.RunTexts.{IsWritableGap}
use Rattle.run_specs.specs.Automaton.{Automaton, width}
use Rattle.run_specs.specs.Keys.{no_state, parent_at}
use Rattle.run_specs.specs.Runs.{GapRun}
use Rattle.gap_runs.specs.Befores.{common_point}
use Rattle.gap_runs.specs.Shapes.{shaped, step}
use Rattle.gap_runs.specs.Traces.{BackValue}
use Rattle.gap_runs.proofs.AgreeGap.{gap_back_is, gap_many}
use Rattle.gap_runs.proofs.ArriveLemmas.{start_inside}
use Rattle.gap_runs.proofs.GapShapes.{shaped_fits}
use Rattle.gap_runs.proofs.LicenceGap.{numbers_pass}
use Rattle.gap_runs.proofs.gaps.gap_back.Goals as goal

pub returns-in_err-numbers-clause-passes : goal.returns-in_err-numbers-clause-passes
returns-in_err-numbers-clause-passes c e =
    let same : c.in_err-numbers.field-0.0 ≡ Passes = search rules in
    let back : BackValue = c.in_ok-back.back in
    let numbers : c.as_slice.result.now ≡ back.numbers = search rules in
    numbers_pass c.args.key.now c.args.parent c.args.path.now c.args.last.now c.automaton_of.ensures.limits c.automaton_of.ensures.kept c.requires.may_take c.requires.sized
    (λ k d h. (c.see_all_kept.ensures k d h).positive) c.requires.reached back c.in_ok-back.ensures.back c.in_ok-back.ensures.ok
    (subst (λ xs. SomePasses (common_numbers xs)) numbers (c.in_err-numbers.ensures.passes (ap (λ g. Err g) same)))

pub gap_run_of-requires-clause-sized : goal.gap_run_of-requires-clause-sized
gap_run_of-requires-clause-sized c =
    let key = c.args.key.now in
    let back : BackValue = c.in_ok-back.back in
    let numbers : c.as_slice.result.now ≡ back.numbers = search rules in
    let many : length c.vars-m.result.now ≡ width key.automaton = ap length c.vars-m.ensures.value ∙ ap (λ (a : Automaton). width a) c.automaton_of.ensures.value in
    ap (λ (p : Point). length p.num) c.in_ok-numbers.ensures.ok ∙ ap (λ xs. length (common_nums xs)) numbers
    ∙ gap_many key c.args.parent c.args.path.now c.args.last.now back c.requires.sized c.in_ok-back.ensures.ok ∙ ap (λ k. (length c.args.path.now + 1) * step k) (sym many)

pub returns-clause-ok : goal.returns-clause-ok
returns-clause-ok c =
    let key = c.args.key.now in
    let back : BackValue = c.in_ok-back.back in
    let numbers : c.as_slice.result.now ≡ back.numbers = search rules in
    let more : c.as_slice-2.result.now ≡ back.numbers = search rules in
    let many : length c.vars-m.result.now ≡ width key.automaton = ap length c.vars-m.ensures.value ∙ ap (λ (a : Automaton). width a) c.automaton_of.ensures.value in
    let point : c.in_ok-numbers.numbers ≡ common_point back.numbers = c.in_ok-numbers.ensures.ok ∙ ap (λ xs. common_point xs) numbers in
    let gap : c.in_ok-gap.gap ≡ shaped (width key.automaton) (parent_at key c.args.parent).loc c.args.path.now (common_point back.numbers) =
    c.in_ok-gap.ensures ∙ ap (λ k. shaped k c.loc_of-loc.result c.args.path.now c.in_ok-numbers.numbers) many ∙ ap (λ l. shaped (width key.automaton) l c.args.path.now c.in_ok-numbers.numbers) c.loc_of-loc.ensures.value
    ∙ ap (λ (p : Point). shaped (width key.automaton) (parent_at key c.args.parent).loc c.args.path.now p) point in
    let start : c.in_ok-start.start.items ≡ drop (length back.numbers - width key.automaton) back.numbers =
    c.in_ok-start.ensures ∙ ap (λ k. drop (length c.as_slice-2.result.now - k) c.as_slice-2.result.now) many ∙ ap (λ (xs : List Fraction). drop (length xs - width key.automaton) xs) more in
    gap_back_is key c.args.parent c.args.path.now c.args.last.now back (record { gap = c.in_ok-gap.gap; start = c.in_ok-start.start.items }) c.automaton_of.ensures.limits c.automaton_of.ensures.kept
    c.requires.may_take c.requires.sized (λ k d h. (c.see_all_kept.ensures k d h).positive) c.in_ok-back.ensures.back c.in_ok-back.ensures.ok gap start

pub returns-clause-fractions : goal.returns-clause-fractions
returns-clause-fractions c =
    let back : BackValue = c.in_ok-back.back in
    let more : c.as_slice-2.result.now ≡ back.numbers = search rules in
    let start : c.in_ok-start.start.items ≡ drop (length back.numbers - length c.vars-m.result.now) back.numbers =
    c.in_ok-start.ensures ∙ ap (λ (xs : List Fraction). drop (length xs - length c.vars-m.result.now) xs) more in
    subst (λ xs. All IsFraction xs) (sym start) (All-drop IsFraction (length back.numbers - length c.vars-m.result.now) back.numbers c.in_ok-back.ensures.back.fractions)

pub returns-clause-inside : goal.returns-clause-inside
returns-clause-inside c =
    let key = c.args.key.now in
    let back : BackValue = c.in_ok-back.back in
    let more : c.as_slice-2.result.now ≡ back.numbers = search rules in
    let many : length c.vars-m.result.now ≡ width key.automaton = ap length c.vars-m.ensures.value ∙ ap (λ (a : Automaton). width a) c.automaton_of.ensures.value in
    let start : c.in_ok-start.start.items ≡ drop (length back.numbers - width key.automaton) back.numbers =
    c.in_ok-start.ensures ∙ ap (λ k. drop (length c.as_slice-2.result.now - k) c.as_slice-2.result.now) many ∙ ap (λ (xs : List Fraction). drop (length xs - width key.automaton) xs) more in
    subst (λ xs. AllHold (parent_at key c.args.parent).rows (common_point xs)) (sym start)
    (start_inside (width key.automaton) back (parent_at key c.args.parent).rows (c.automaton_of.ensures.kept.belief c.args.parent no_state c.requires.may_take.parent).wide c.in_ok-back.ensures.back
    c.in_ok-back.ensures.inside)

pub returns-clause-writable : goal.returns-clause-writable
returns-clause-writable c =
    let key = c.args.key.now in
    let back : BackValue = c.in_ok-back.back in
    let numbers : c.as_slice.result.now ≡ back.numbers = search rules in
    let many : length c.vars-m.result.now ≡ width key.automaton = ap length c.vars-m.ensures.value ∙ ap (λ (a : Automaton). width a) c.automaton_of.ensures.value in
    let sized : length c.in_ok-numbers.numbers.num ≡ (length c.args.path.now + 1) * step (width key.automaton) =
    ap (λ (p : Point). length p.num) c.in_ok-numbers.ensures.ok ∙ ap (λ xs. length (common_nums xs)) numbers
    ∙ gap_many key c.args.parent c.args.path.now c.args.last.now back c.requires.sized c.in_ok-back.ensures.ok in
    let gap : c.in_ok-gap.gap ≡ shaped (width key.automaton) (parent_at key c.args.parent).loc c.args.path.now c.in_ok-numbers.numbers =
    c.in_ok-gap.ensures ∙ ap (λ k. shaped k c.loc_of-loc.result c.args.path.now c.in_ok-numbers.numbers) many ∙ ap (λ l. shaped (width key.automaton) l c.args.path.now c.in_ok-numbers.numbers) c.loc_of-loc.ensures.value in
    let loc = (c.automaton_of.ensures.kept.belief c.args.parent no_state c.requires.may_take.parent).loc in
    subst (λ (g : GapRun). IsWritableGap g) (sym gap)
    (shaped_fits (width key.automaton) (parent_at key c.args.parent).loc c.args.path.now c.in_ok-numbers.numbers sized key.automaton c.automaton_of.ensures.limits (λ i. width key.automaton) c.den.ensures.kept loc
    c.requires.may_take.fits)
