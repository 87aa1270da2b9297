use Rattle.std.proofs.Common.{◌≡◌, ◌∙◌, Err, List, length, arith, ap, rules, sym, subst}
use Rattle.std.specs.Prelude.{option_map}
use Rattle.fm_eliminate.specs.declared.RowFault.TheVariants.{Passes}
use Rattle.poly_specs.specs.Rows.{AllHold}
use Rattle.poly_specs.specs.Systems.{System}
use Rattle.run_specs.specs.Automaton.{width, transition_at}
use Rattle.run_specs.specs.Ends.{SomeJumpEnds}
use Rattle.run_specs.specs.Passes.{Fits}
use Rattle.sample_succ.specs.Parts.{IsSplit}
use Rattle.gap_runs.specs.Befores.{common_point}
use Rattle.gap_runs.specs.Traces.{after_of}
use Rattle.gap_runs.specs.Paths.{system_at, last_system, ArePath}
use Rattle.gap_runs.proofs.PathLemmas.{steps, passes_last, passes_jump}
use Rattle.gap_runs.proofs.paths.+trace.Goals as goal

pub returns-in_err-first-in-None-clause-passes : goal.returns-in_err-first-in-None-clause-passes
returns-in_err-first-in-None-clause-passes t c f =
    let same : c.in_err-first-in-None.field-0.0 ≡ Passes = search rules in
    let none = subst (λ o. IsSplit c.args.path.now (option_map (λ p. (p.0, p.1.now)) o)) c.in-None.is c.split.ensures in
    passes_last c.args.a.now c.args.loc c.args.path.now c.args.before.now c.args.systems.now c.args.back none (c.in_err-first-in-None.ensures.passes (ap (λ g. Err g) same))

pub trace-requires : goal.trace-requires
trace-requires t c =
    let a = c.args.a.now in
    let some = subst (λ o. IsSplit c.args.path.now (option_map (λ p. (p.0, p.1.now)) o)) c.in-Some.is c.split.ensures in
    let fits = subst (Fits a c.args.loc) some c.requires.fits in
    let s = steps a c.args.loc c.in-Some.e c.args.path.now c.in-Some.rest.now c.args.before.now c.args.systems.now c.requires.path some in
    let many = ap length some in
    let left = c.requires.left in
    let d = c.decreases in
    let goes = c.target_of-target.ensures.target in (
      omega (arith, d, left, many),
      (
        c.target_of-target.ensures.known,
        (
          subst (λ l. Fits a l c.in-Some.rest.now) (sym goes) fits.2,
          (
            omega (arith, left, many),
            (
              ap (λ (x : System). x.width) c.system-start.ensures ∙ s.second_wide,
              (
                subst (λ l. ArePath a l c.in-Some.rest.now c.system-start.result.now c.after_two-more.result.now) (sym goes)
                    (subst (λ (x : System). ArePath a (transition_at a c.in-Some.e).target c.in-Some.rest.now x c.after_two-more.result.now) (sym c.system-start.ensures)
                    (subst (λ (xs : List System). ArePath a (transition_at a c.in-Some.e).target c.in-Some.rest.now (system_at c.args.systems.now 1) xs) (sym c.after_two-more.ensures) s.path)),
                (
                  c.requires.back,
                  subst (λ (x : System). AllHold x.rows (common_point (after_of (width a) c.args.back))) (sym (ap (λ (xs : List System). last_system xs) c.after_two-more.ensures ∙ s.last)) c.requires.inside,
                ),
              ),
            ),
          ),
        ),
      ),
    )

pub jump_back-requires-clause-reached : goal.jump_back-requires-clause-reached
jump_back-requires-clause-reached t c =
    let a = c.args.a.now in
    let some = subst (λ o. IsSplit c.args.path.now (option_map (λ p. (p.0, p.1.now)) o)) c.in-Some.is c.split.ensures in
    let s = steps a c.args.loc c.in-Some.e c.args.path.now c.in-Some.rest.now c.args.before.now c.args.systems.now c.requires.path some in
    let later = c.in_ok-later-in-Some.later in
    subst (λ (x : System). SomeJumpEnds a c.in-Some.e x.rows (common_point (after_of (width a) later))) (sym c.system-ended.ensures)
    (s.jump later c.in_ok-later-in-Some.ensures.back
    (subst (λ (x : System). AllHold x.rows (common_point (after_of (width a) later))) c.system-start.ensures c.in_ok-later-in-Some.ensures.inside))

pub leg_back-requires-clause-reached : goal.leg_back-requires-clause-reached
leg_back-requires-clause-reached t c =
    let a = c.args.a.now in
    let some = subst (λ o. IsSplit c.args.path.now (option_map (λ p. (p.0, p.1.now)) o)) c.in-Some.is c.split.ensures in
    let s = steps a c.args.loc c.in-Some.e c.args.path.now c.in-Some.rest.now c.args.before.now c.args.systems.now c.requires.path some in
    let between = c.in_ok-between-in-Some.between in
    s.leg between c.in_ok-between-in-Some.ensures.back
    (subst (λ (x : System). AllHold x.rows (common_point (after_of (width a) between))) c.system-ended.ensures c.in_ok-between-in-Some.ensures.inside)

pub returns-in_err-between-in-Some-clause-passes : goal.returns-in_err-between-in-Some-clause-passes
returns-in_err-between-in-Some-clause-passes t c f =
    let same : c.in_err-between-in-Some.field-0.0 ≡ Passes = search rules in
    let some = subst (λ o. IsSplit c.args.path.now (option_map (λ p. (p.0, p.1.now)) o)) c.in-Some.is c.split.ensures in
    passes_jump c.args.a.now c.args.loc c.in-Some.e c.args.path.now c.in-Some.rest.now c.args.before.now c.system-start.result.now c.system-ended.result.now c.args.systems.now c.after_two-more.result.now
    c.target_of-target.result some c.target_of-target.ensures.target c.system-ended.ensures c.system-start.ensures c.after_two-more.ensures c.args.back c.in_ok-later-in-Some.later c.in_ok-later-in-Some.ensures.ok
    (c.in_err-between-in-Some.ensures.passes (ap (λ g. Err g) same))
