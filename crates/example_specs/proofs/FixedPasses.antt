-- Whether logs of a fixed value pass 128 bits.
use Rattle.std.proofs.Common.{◌≡◌, ℕ, zero, suc, ◌<◌, inl, inr, [], ◌∷◌, take, refl, subst, arith, lit<, lit≤, pos, T}
use Rattle.std.specs.List.{AllZip}
use Rattle.std.proofs.Math.Nat.{eq-one_of_dvd-one}
use Rattle.std.proofs.lemmas.List.Elements.{All-from_recursion}
use Rattle.poly_specs.specs.Fractions.{SameFraction}
use Rattle.poly_specs.specs.Rows.{Point, over}
use Rattle.poly_specs.specs.Elimination.{gcd, divisor, divided, eliminated, formed}
use Rattle.poly_specs.specs.Denominators.{common_numbers}
use Rattle.poly_specs.specs.Bits.{SomePasses}
use Rattle.poly_specs.specs.Picks.{IsPick}
use Rattle.run_specs.proofs.AimLemmas.{alarm_visit}
use Rattle.run_specs.proofs.FirstRunLemmas.{one_first_run}
use Rattle.run_specs.specs.Runs.{GapRun, Run, IsRun}
use Rattle.run_specs.specs.Aims.{IsAimedRun, to_alarm}
use Rattle.run_specs.specs.FirstRun.{picked, pick_at, IsLeft, IsReduced, IsFirstRun}
use Rattle.run_specs.specs.Stages.{SomeReachedPasses, gap_start, leg_stage, opening_stage, rows_after, stage_numbers}
use Rattle.run_specs.specs.Passes.{LogPasses, history_stages}
use Rattle.run_specs.specs.RunPasses.{pickings, gap_numbers, FirstRunPasses, RunPasses}
use Rattle.example_specs.proofs.WellFormed.{fixed_is}
use Rattle.example_specs.proofs.PickExamples.{pick_zero}
use Rattle.example_specs.proofs.RunTests.{run_from, holds_from}
use Rattle.example_specs.proofs.Earliest.{none_earlier}
use Rattle.example_specs.proofs.PassTests.{fits_test, none_passes, stages_test, no_stage_passes, pickings_test, no_picking_passes}
use Rattle.example_specs.specs.Literals.{whole, observes}
use Rattle.example_specs.specs.Fixed.{fixed, at_zero, zero_seen, zero_run, tiny, huge_seen}

stages_fit : T (stages_test (history_stages (fixed (whole 0)) zero_seen 0 ([] ∷ []) at_zero))
unfolding gcd divisor divided eliminated formed rows_after stage_numbers
stages_fit = tt

pub no_log_passes : (k : ℕ) → LogPasses (fixed (whole 0)) k zero_seen → ⊥
no_log_passes k (zero, [], p) = let e = p.one_for_each_gap in omega (arith, e)
no_log_passes k (zero, path ∷ more ∷ paths, p) = let e = p.one_for_each_gap in omega (arith, e)
no_log_passes k (zero, [] ∷ [], p) = no_stage_passes (history_stages (fixed (whole 0)) zero_seen 0 ([] ∷ []) at_zero) stages_fit p.passes
no_log_passes k (zero, (e ∷ path) ∷ [], p) = let f = p.fit.1.0 in omega (arith, f)
no_log_passes k (suc l, paths, p) = p.passes

pub pickings_fit : T (pickings_test (pickings (fixed (whole 0)) zero_seen zero_run at_zero []))
unfolding gcd divisor divided eliminated rows_after
pickings_fit = tt

abbrev zero_gap : GapRun
zero_gap = record { den = pos 1; start_loc = 0; start = pos 0 ∷ []; moves = []; last = record { length_of = pos 0; at_end = pos 0 ∷ [] } }

gap_fits : T (fits_test (common_numbers (gap_numbers zero_gap)))
unfolding gcd
gap_fits = tt

-- ---- its first run

zero_is : (k : ℕ) → IsRun (fixed (whole 0)) k zero_seen zero_run
zero_is k =
    let r = run_from (fixed (whole 0)) 0 zero_seen zero_run tt in
    let c = r.follows.0 in
    record {
      starts = r.starts;
      follows = (record { same_loc = refl; same_point = refl; few = omega arith; gap_run = c.gap_run; passes = c.passes }, tt);
    }

zero_aimed : (k : ℕ) → IsAimedRun (fixed (whole 0)) k zero_seen to_alarm zero_run
zero_aimed k =
    record { run_of = zero_is k; meets = (alarm_visit (fixed (whole 0)) zero_run).1 (0, _, lit< tt, refl, refl) }

own : (k i : ℕ) → AllZip SameFraction (take i (picked zero_run)) (take i (picked zero_run)) → IsLeft (fixed (whole 0)) k zero_seen to_alarm zero_run i (pick_at i zero_run)
own k i same = (zero_run, record { aimed = zero_aimed k; same_history = refl; same_numbers = same; value = refl })

picks : (k i : ℕ) → i < 3 → IsPick (IsLeft (fixed (whole 0)) k zero_seen to_alarm zero_run i) (pick_at i zero_run)
picks k zero h = pick_zero (IsLeft (fixed (whole 0)) k zero_seen to_alarm zero_run 0) (pos 1) (record { lt = tt }) (own k 0 tt)
picks k (suc zero) h = pick_zero (IsLeft (fixed (whole 0)) k zero_seen to_alarm zero_run 1) (pos 1) (record { lt = tt }) (own k 1 (refl, tt))
picks k (suc (suc zero)) h = pick_zero (IsLeft (fixed (whole 0)) k zero_seen to_alarm zero_run 2) (pos 1) (record { lt = tt }) (own k 2 (refl, (refl, tt)))
picks k (suc (suc (suc i))) h = absurd (omega arith)

pub zero_first : (k : ℕ) → IsFirstRun (fixed (whole 0)) k zero_seen to_alarm zero_run
zero_first k = record {
  aimed = zero_aimed k;
  earliest = λ other h e. none_earlier (fixed (whole 0)) k (observes (whole 0) (whole 0)) other h.run_of e;
  picks = picks k;
  reduced = All-from_recursion IsReduced zero_run.gaps (λ k h all. eq-one_of_dvd-one h, tt);
}

no_first_run_passes : (run : Run) → run.gaps ≡ zero_run.gaps → run.start.loc ≡ 0 → FirstRunPasses (fixed (whole 0)) zero_seen to_alarm run → ⊥
no_first_run_passes run gaps loc pass =
    go (subst (λ l. FirstRunPasses (fixed (whole 0)) zero_seen to_alarm (record { start = record { loc = l; point = run.start.point }; gaps = zero_run.gaps })) loc
    (subst (λ gs. FirstRunPasses (fixed (whole 0)) zero_seen to_alarm (record { start = run.start; gaps = gs })) gaps pass))
  where
    go : FirstRunPasses (fixed (whole 0)) zero_seen to_alarm (record { start = record { loc = 0; point = run.start.point }; gaps = zero_run.gaps }) → ⊥
    go (inl (p, i, passes)) = no_picking_passes (pickings (fixed (whole 0)) zero_seen zero_run at_zero []) pickings_fit p i passes
    go (inr (g, inl e, passes)) = none_passes (common_numbers (gap_numbers zero_gap)) gap_fits (subst (λ x. SomePasses (common_numbers (gap_numbers x))) e passes)
    go (inr (g, inr i, passes)) = i

pub no_run_passes : (k : ℕ) → RunPasses (fixed (whole 0)) k zero_seen to_alarm → ⊥
no_run_passes k (inl log) = no_log_passes k log
no_run_passes k (inr (run, first, passes)) =
    let same = one_first_run (fixed (whole 0)) k zero_seen to_alarm run zero_run fixed_is first (zero_first k) in no_first_run_passes run same.0 same.1 passes

-- ---- a log that passes

huge_reaches : SomeReachedPasses (history_stages (fixed tiny) huge_seen 0 ([] ∷ []) at_zero)
unfolding gcd divisor divided eliminated formed rows_after stage_numbers
huge_reaches =
    let start : Point = over (pos 1) (pos 0 ∷ []) in
    let end : Point = over (pos 1) (pos 0 ∷ pos 0 ∷ []) in
    let opening = rows_after (opening_stage (fixed tiny) 0 at_zero) in
    let leg = rows_after (leg_stage (fixed tiny) 0 (gap_start 1 opening)) in
    inr ((start, record { lt = tt }, refl, holds_from opening start tt), inr ((end, record { lt = tt }, refl, holds_from leg end tt), inl (0, _, lit< tt, refl, lit≤ tt)))

pub log_passes : (k : ℕ) → LogPasses (fixed tiny) k huge_seen
log_passes k =
    (0, [] ∷ [], record { one_for_each_gap = refl; fit = (omega arith, tt, tt); passes = huge_reaches })
