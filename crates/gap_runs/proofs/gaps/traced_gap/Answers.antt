use Rattle.std.proofs.Common.{◌≡◌, ◌∙◌, Err, List, drop, ap, rules, subst, sym}
use Rattle.fm_eliminate.specs.declared.RowFault.TheVariants.{Passes}
use Rattle.poly_specs.specs.Rows.{AllHold}
use Rattle.poly_specs.specs.Systems.{System}
use Rattle.run_specs.specs.Automaton.{Automaton, width}
use Rattle.run_specs.specs.Keys.{no_state, parent_at}
use Rattle.sample_succ.specs.Parts.{start_of}
use Rattle.gap_runs.specs.Befores.{common_point}
use Rattle.gap_runs.specs.Paths.{last_system, system_at, TracePasses}
use Rattle.gap_runs.specs.Traces.{BackValue, after_of}
use Rattle.gap_runs.proofs.ArriveLemmas.{end_inside}
use Rattle.gap_runs.proofs.LicenceGap.{stages_pass, trace_passes}
use Rattle.gap_runs.proofs.gaps.traced_gap.Goals as goal

pub returns-in_err-systems-clause-passes : goal.returns-in_err-systems-clause-passes
returns-in_err-systems-clause-passes c e =
    let same : c.in_err-systems.field-0.0 ≡ Passes = search rules in
    stages_pass c.args.key.now c.args.parent c.args.path.now c.args.last.now c.automaton_of-a.ensures.limits c.automaton_of-a.ensures.kept c.requires.may_take c.requires.sized
    (λ k d h. (c.see_all_kept.ensures k d h).positive) c.requires.reached (c.in_err-systems.ensures.passes (ap (λ g. Err g) same))

pub trace-requires-clause-inside : goal.trace-requires-clause-inside
trace-requires-clause-inside c =
    let key = c.args.key.now in
    let (rest, parts, is) = c.in_ok-systems.ensures.ok in
    let after : c.after_first-after.result.now ≡ rest = c.after_first-after.ensures ∙ ap (λ (ss : List System). drop 1 ss) (c.as_slice-2.ensures.value ∙ is) in
    subst (λ (ss : List System). AllHold (last_system ss).rows (common_point (after_of (width c.automaton_of-a.result.now) c.in_ok-end.end))) (sym after)
    (subst (λ (b : Automaton). AllHold (last_system rest).rows (common_point (after_of (width b) c.in_ok-end.end))) (sym c.automaton_of-a.ensures.value)
    (subst (λ (b : BackValue). AllHold (last_system rest).rows (common_point (after_of (width key.automaton) b))) (sym c.in_ok-end.ensures)
    (end_inside key c.args.parent c.args.path.now c.args.last.now rest c.automaton_of-a.ensures.kept c.requires.sized (λ k d h. (c.see_all_kept.ensures k d h).positive)
    (c.automaton_of-a.ensures.kept.belief c.args.parent no_state c.requires.may_take.parent).wide parts c.requires.reached)))

pub returns-in_err-back-clause-passes : goal.returns-in_err-back-clause-passes
returns-in_err-back-clause-passes c e =
    let key = c.args.key.now in
    let path = c.args.path.now in
    let same : c.in_err-back.field-0.0 ≡ Passes = search rules in
    let (rest, parts, is) = c.in_ok-systems.ensures.ok in
    let before : c.system-before.result.now ≡ start_of key c.args.parent = c.system-before.ensures ∙ ap (λ (ss : List System). system_at ss 0) (c.as_slice.ensures.value ∙ is) in
    let after : c.after_first-after.result.now ≡ rest = c.after_first-after.ensures ∙ ap (λ (ss : List System). drop 1 ss) (c.as_slice-2.ensures.value ∙ is) in
    trace_passes key c.args.parent path c.args.last.now c.automaton_of-a.ensures.limits c.automaton_of-a.ensures.kept c.requires.may_take c.requires.sized
    (λ k d h. (c.see_all_kept.ensures k d h).positive) c.requires.reached rest parts
    (subst (λ (b : BackValue). TracePasses key.automaton (parent_at key c.args.parent).loc path (start_of key c.args.parent) rest b) c.in_ok-end.ensures
    (subst (λ (ss : List System). TracePasses key.automaton (parent_at key c.args.parent).loc path (start_of key c.args.parent) ss c.in_ok-end.end) after
    (subst (λ (s : System). TracePasses key.automaton (parent_at key c.args.parent).loc path s c.after_first-after.result.now c.in_ok-end.end) before
    (subst (λ l. TracePasses key.automaton l path c.system-before.result.now c.after_first-after.result.now c.in_ok-end.end) c.loc_of-loc.ensures.value
    (subst (λ (b : Automaton). TracePasses b c.loc_of-loc.result path c.system-before.result.now c.after_first-after.result.now c.in_ok-end.end) c.automaton_of-a.ensures.value
    (c.in_err-back.ensures.passes (ap (λ g. Err g) same)))))))

pub returns-clause-inside : goal.returns-clause-inside
returns-clause-inside c =
    let key = c.args.key.now in
    let (rest, parts, is) = c.in_ok-systems.ensures.ok in
    let before : c.system-before.result.now ≡ start_of key c.args.parent = c.system-before.ensures ∙ ap (λ (ss : List System). system_at ss 0) (c.as_slice.ensures.value ∙ is) in
    subst (λ (b : Automaton). AllHold (start_of key c.args.parent).rows (common_point (after_of (width b) c.in_ok-back.back))) c.automaton_of-a.ensures.value
    (subst (λ (s : System). AllHold s.rows (common_point (after_of (width c.automaton_of-a.result.now) c.in_ok-back.back))) before c.in_ok-back.ensures.inside)
