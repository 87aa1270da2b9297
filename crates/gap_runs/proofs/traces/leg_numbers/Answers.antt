use Rattle.std.proofs.Common.{◌≡◌, ◌≤◌, ◌∙◌, inl, inr, Err, ℕ, List, length, ap, rules, sym, subst}
use Rattle.std.specs.Prelude.{All}
use Rattle.fm_eliminate.specs.declared.RowFault.TheVariants.{Passes}
use Rattle.poly_specs.specs.Arithmetic.{IsKept}
use Rattle.poly_specs.specs.Bits.{SomePasses}
use Rattle.poly_specs.specs.Denominators.{common_numbers}
use Rattle.poly_specs.specs.Rows.{Point}
use Rattle.run_specs.specs.Automaton.{width}
use Rattle.run_specs.specs.Ends.{SomeLegEnds}
use Rattle.gap_runs.specs.Befores.{common_point, leg_columns, LeavingPasses}
use Rattle.gap_runs.specs.Traces.{after_of}
use Rattle.gap_runs.proofs.TraceLemmas.{picked_after, after_length}
use Rattle.gap_runs.proofs.traces.leg_numbers.Goals as goal

pub after_point-requires : goal.after_point-requires
after_point-requires c = subst (λ (vs : List (List ℕ)). length vs ≤ length c.args.back.now.numbers) (sym c.vars.ensures.value) c.requires.sized

pub returns-in_err-after-clause-passes : goal.returns-in_err-after-clause-passes
returns-in_err-after-clause-passes c e =
    let same : c.in_err-after.field-0.0 ≡ Passes = search rules in
    inl (subst (λ (vs : List (List ℕ)). SomePasses (common_numbers (after_of (length vs) c.args.back.now))) c.vars.ensures.value (c.in_err-after.ensures.passes (ap (λ f. Err f) same)))

pub leg_point-requires-clause-sized : goal.leg_point-requires-clause-sized
leg_point-requires-clause-sized c =
    ap (λ (p : Point). length p.num) (c.in_ok-after.ensures.ok ∙ ap (λ (vs : List (List ℕ)). common_point (after_of (length vs) c.args.back.now)) c.vars.ensures.value)
    ∙ after_length (width c.args.a.now) c.args.back.now c.requires.sized

pub leg_point-requires-clause-reached : goal.leg_point-requires-clause-reached
leg_point-requires-clause-reached c =
    subst (λ (p : Point). SomeLegEnds c.args.a.now c.args.loc c.args.state.now.rows p)
    (sym (c.in_ok-after.ensures.ok ∙ ap (λ (vs : List (List ℕ)). common_point (after_of (length vs) c.args.back.now)) c.vars.ensures.value)) c.requires.reached

pub returns-in_err-point-clause-passes : goal.returns-in_err-point-clause-passes
returns-in_err-point-clause-passes c e =
    let same : c.in_err-point.field-0.0 ≡ Passes = search rules in
    inr (subst (λ (p : Point). LeavingPasses (leg_columns c.args.a.now c.args.loc c.args.state.now.rows) p)
    (c.in_ok-after.ensures.ok ∙ ap (λ (vs : List (List ℕ)). common_point (after_of (length vs) c.args.back.now)) c.vars.ensures.value) (c.in_err-point.ensures.passes (ap (λ f. Err f) same)))

pub returns-clause-ok : goal.returns-clause-ok
returns-clause-ok c =
    let kept = subst (λ (vs : List (List ℕ)). All IsKept (after_of (length vs) c.args.back.now)) c.vars.ensures.value c.in_ok-after.ensures.kept in
    picked_after (leg_columns c.args.a.now c.args.loc c.args.state.now.rows) (after_of (width c.args.a.now) c.args.back.now) c.in_ok-numbers.numbers.items c.in_ok-after.after c.in_ok-point.point
    kept (c.in_ok-after.ensures.ok ∙ ap (λ (vs : List (List ℕ)). common_point (after_of (length vs) c.args.back.now)) c.vars.ensures.value) c.in_ok-point.ensures.ok c.in_ok-numbers.ensures
