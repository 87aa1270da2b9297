-- The first run of two values that rest: the log does not pass 128 bits, and its first run does.
use Rattle.std.proofs.Common.{◌≡◌, inl, inr, ℕ, zero, suc, ◌<◌, List, [], ◌∷◌, length, map, take, refl, sym, ◌∙◌, ap, subst, arith, ℤ, pos, ◌*ℤ◌, ◌<ℤ◌, lit<, lit≤, T, unsigned_abs}
use Rattle.std.specs.Prelude.{IsSomeAnd}
use Rattle.std.specs.List.{AllZip}
use Rattle.std.specs.Int.{◌∣◌}
use Rattle.std.proofs.Math.Nat.{dvd-sub, eq-one_of_dvd-one}
use Rattle.std.proofs.lemmas.Int.{ints}
use Rattle.std.proofs.lemmas.List.Elements.{All-from_recursion, All-head, All-tail}
use Rattle.poly_specs.proofs.FractionLemmas.{same-trans}
use Rattle.poly_specs.specs.Fractions.{Fraction, SameFraction, zero_fraction}
use Rattle.poly_specs.specs.Rows.{over, AllHold}
use Rattle.poly_specs.specs.Elimination.{gcd, divisor, divided, eliminated, formed}
use Rattle.poly_specs.specs.Picks.{IsPick}
use Rattle.run_specs.proofs.AimLemmas.{alarm_visit}
use Rattle.run_specs.proofs.RunEndLemmas.{all_same}
use Rattle.run_specs.specs.Automaton.{never, location_at}
use Rattle.run_specs.specs.Logs.{Sample}
use Rattle.run_specs.specs.Runs.{Move, GapRun, Run, IsLeg, LeadOn, Follows, IsRun, path_of, start_point, total}
use Rattle.run_specs.specs.Histories.{History, history_of}
use Rattle.run_specs.specs.Stages.{rows_after, stage_numbers}
use Rattle.run_specs.specs.Passes.{LogPasses, history_stages}
use Rattle.run_specs.specs.Aims.{IsAimedRun, to_alarm}
use Rattle.run_specs.specs.FirstRun.{picked, pick_at, IsLeft, IsReduced, IsFirstRun}
use Rattle.run_specs.specs.RunPasses.{FirstRunPasses}
use Rattle.example_specs.proofs.PickExamples.{pick_zero, pick_only}
use Rattle.example_specs.proofs.RunTests.{run_from}
use Rattle.example_specs.proofs.PassTests.{stages_test, no_stage_passes}
use Rattle.example_specs.proofs.Earliest.{none_earlier}
use Rattle.example_specs.specs.Literals.{fraction}
use Rattle.example_specs.specs.Coprimes.{coprimes, coprime_starts, both_blank, coprime_run}

abbrev log : List Sample
log = both_blank ∷ []

-- ---- the log does not pass

stages_fit : T (stages_test (history_stages coprimes log 0 ([] ∷ []) coprime_starts))
unfolding gcd divisor divided eliminated formed rows_after stage_numbers
stages_fit = tt

pub no_log_passes : (k : ℕ) → LogPasses coprimes k log → ⊥
no_log_passes k (zero, [], p) = let e = p.one_for_each_gap in omega (arith, e)
no_log_passes k (zero, path ∷ more ∷ paths, p) = let e = p.one_for_each_gap in omega (arith, e)
no_log_passes k (zero, [] ∷ [], p) = no_stage_passes (history_stages coprimes log 0 ([] ∷ []) coprime_starts) stages_fit p.passes
no_log_passes k (zero, (e ∷ path) ∷ [], p) = let f = p.fit.1.0 in omega (arith, f)
no_log_passes k (suc l, paths, p) = p.passes

-- ---- the runs of this history

coprime_is : IsRun coprimes 0 log coprime_run
coprime_is = run_from coprimes 0 log coprime_run tt

aimed : IsAimedRun coprimes 0 log to_alarm coprime_run
aimed = record { run_of = coprime_is; meets = (alarm_visit coprimes coprime_run).1 (0, _, lit< tt, refl, refl) }

-- the gap run that rests at x and y over d
abbrev rest : ℤ → ℤ → ℤ → GapRun
rest d x y = record {
  den = d;
  start_loc = 0;
  start = x ∷ y ∷ [];
  moves = [];
  last = record { length_of = pos 0; at_end = x ∷ y ∷ [] };
}

-- it is the run's only one, where the rows of a start hold
record RestsThere (run : Run) (d x y : ℤ) : Type 0 where
  gaps : run.gaps ≡ rest d x y ∷ []
  positive : pos 0 <ℤ d
  first : pos 100000000000000000000 *ℤ x ≡ d
  second : pos 100000000000000000001 *ℤ y ≡ d

two_numbers : (q : List ℤ) → length q ≡ 2 → (x y : ℤ) × (q ≡ x ∷ y ∷ [])
two_numbers [] e = absurd (omega arith)
two_numbers (x ∷ []) e = absurd (omega arith)
two_numbers (x ∷ y ∷ []) e = (x, y, refl)
two_numbers (x ∷ y ∷ z ∷ q) e = absurd (omega arith)

rests : (run : Run) → IsRun coprimes 0 log run → history_of run ≡ history_of coprime_run → (d x y : ℤ) × RestsThere run d x y
rests run is e = go run.gaps refl (ap (λ (h : History). h.paths) e) is.follows
  where
    no_moves : (ms : List Move) → map (λ m. m.transition) ms ≡ [] → ms ≡ []
    no_moves [] f = refl
    no_moves (m ∷ ms) f = absurd (let b : ⊥ = cc in b)

    starts : AllHold coprime_starts run.start.point
    starts =
        subst (λ l. IsSomeAnd (location_at coprimes l).init (λ init. AllHold init run.start.point)) (ap (λ (h : History). h.start) e) is.starts.allowed

    go : (gs : List GapRun) → run.gaps ≡ gs → map path_of run.gaps ≡ [] ∷ [] → Follows coprimes 0 run.start zero_fraction log gs → (d x y : ℤ) × RestsThere run d x y
    go [] f paths h = absurd h
    go (g ∷ k ∷ gs) f paths h = absurd h.1
    go (g ∷ []) f paths h =
        let hd = h.0.gap_run.positive in
        let path : path_of g ≡ [] = (let p : map path_of (g ∷ []) ≡ [] ∷ [] = sym (ap (λ gs. map path_of gs) f) ∙ paths in cc) in
        let still : g.moves ≡ [] = no_moves g.moves path in
        let leg : IsLeg (location_at coprimes g.start_loc) g.den g.start g.last.length_of g.last.at_end =
        subst (λ ms. LeadOn coprimes g.den g.start_loc g.start ms g.last) still h.0.gap_run.leads in
        let lasts = h.0.gap_run.lasts in
        let none : total g.moves g.last ≡ pos 0 = omega (arith, ints, lasts) in
        let time : g.last.length_of ≡ pos 0 = ap (λ ms. total ms g.last) (sym still) ∙ none in
        let (x, y, end) = two_numbers g.last.at_end h.0.passes.sized in
        let start : g.start ≡ x ∷ y ∷ [] = sym (leg.still time) ∙ end in
        let loc : g.start_loc ≡ 0 = h.0.same_loc ∙ ap (λ (h : History). h.start) e in
        let there = all_same coprime_starts run.start.point (start_point g) is.starts.positive hd (sym h.0.same_point) starts in
        let rows = subst (λ ns. AllHold coprime_starts (over g.den ns)) start there in
        let up = rows 0 never (lit< tt) in
        let low = rows 1 never (lit< tt) in
        let over_y = rows 2 never (lit< tt) in
        let under_y = rows 3 never (lit< tt) in (
          g.den,
          x,
          y,
          record {
            gaps = f ∙ (λ i. record { den = g.den; start_loc = loc i; start = start i; moves = still i; last = record { length_of = time i; at_end = end i } } ∷ []);
            positive = hd;
            first = omega (arith, ints, up, low);
            second = omega (arith, ints, over_y, under_y);
          },
        )

-- ---- the picks

-- the value of a number of such a run
record Left (i : ℕ) (v : Fraction) (d x y : ℤ) : Type 0 where
  positive : pos 0 <ℤ d
  first : pos 100000000000000000000 *ℤ x ≡ d
  second : pos 100000000000000000001 *ℤ y ≡ d
  value : SameFraction (pick_at i (record { start = coprime_run.start; gaps = rest d x y ∷ [] })) v

left_from : (i : ℕ) (v : Fraction) → IsLeft coprimes 0 log to_alarm coprime_run i v → (d x y : ℤ) × Left i v d x y
left_from i v (other, t) =
    let (d, x, y, s) = rests other t.aimed.run_of t.same_history in (
      d,
      x,
      y,
      record {
        positive = s.positive;
        first = s.first;
        second = s.second;
        value = subst (λ gs. SameFraction (pick_at i (record { start = coprime_run.start; gaps = gs })) v) s.gaps t.value;
      },
    )

-- the run itself takes its own numbers
own : (i : ℕ) → AllZip SameFraction (take i (picked coprime_run)) (take i (picked coprime_run)) → IsLeft coprimes 0 log to_alarm coprime_run i (pick_at i coprime_run)
own i same = (coprime_run, record { aimed = aimed; same_history = refl; same_numbers = same; value = refl })

abbrev first_value : Fraction
first_value = fraction 100000000000000000001 10000000000000000000100000000000000000000

abbrev second_value : Fraction
second_value = fraction 100000000000000000000 10000000000000000000100000000000000000000

pick_first : (i : ℕ) → IsLeft coprimes 0 log to_alarm coprime_run i first_value → ((d x y : ℤ) → pick_at i (record { start = coprime_run.start; gaps = rest d x y ∷ [] }) ≡ record { num = x; den = d }) →
    IsPick (IsLeft coprimes 0 log to_alarm coprime_run i) first_value
pick_first i here at =
    pick_only (IsLeft coprimes 0 log to_alarm coprime_run i) first_value (record { lt = tt }) (record { lt = tt }) (record { lt = tt }) here (λ v hv s.
    let (d, x, y, l) = left_from i v s in
    let e : SameFraction (record { num = x; den = d }) v = subst (λ w. SameFraction w v) (at d x y) l.value in
    same-trans v (record { num = x; den = d }) first_value hv l.positive (record { lt = tt }) (sym e) (let f = l.first in omega (arith, ints, f)))

pick_second : (i : ℕ) → IsLeft coprimes 0 log to_alarm coprime_run i second_value → ((d x y : ℤ) → pick_at i (record { start = coprime_run.start; gaps = rest d x y ∷ [] }) ≡ record { num = y; den = d }) →
    IsPick (IsLeft coprimes 0 log to_alarm coprime_run i) second_value
pick_second i here at =
    pick_only (IsLeft coprimes 0 log to_alarm coprime_run i) second_value (record { lt = tt }) (record { lt = tt }) (record { lt = tt }) here (λ v hv s.
    let (d, x, y, l) = left_from i v s in
    let e : SameFraction (record { num = y; den = d }) v = subst (λ w. SameFraction w v) (at d x y) l.value in
    same-trans v (record { num = y; den = d }) second_value hv l.positive (record { lt = tt }) (sym e) (let f = l.second in omega (arith, ints, f)))

picks : (i : ℕ) → i < 5 → IsPick (IsLeft coprimes 0 log to_alarm coprime_run i) (pick_at i coprime_run)
picks zero h = pick_first 0 (own 0 tt) (λ d x y. refl)
picks (suc zero) h = pick_second 1 (own 1 (refl, tt)) (λ d x y. refl)
picks (suc (suc zero)) h = pick_zero (IsLeft coprimes 0 log to_alarm coprime_run 2) (pos 10000000000000000000100000000000000000000) (record { lt = tt }) (own 2 (refl, (refl, tt)))
picks (suc (suc (suc zero))) h = pick_first 3 (own 3 (refl, (refl, (refl, tt)))) (λ d x y. refl)
picks (suc (suc (suc (suc zero)))) h = pick_second 4 (own 4 (refl, (refl, (refl, (refl, tt))))) (λ d x y. refl)
picks (suc (suc (suc (suc (suc i))))) h = absurd (omega arith)

-- ---- the first run

reduced : IsReduced (rest (pos 10000000000000000000100000000000000000000) (pos 100000000000000000001) (pos 100000000000000000000))
reduced k h all =
    let later : List ℤ = pos 100000000000000000000 ∷ pos 0 ∷ pos 100000000000000000001 ∷ pos 100000000000000000000 ∷ [] in
    let one : k ∣ 100000000000000000001 = All-head (λ n. k ∣ unsigned_abs n) (pos 100000000000000000001) later all in
    let rest_of = All-tail (λ n. k ∣ unsigned_abs n) (pos 100000000000000000001) later all in
    let two : k ∣ 100000000000000000000 = All-head (λ n. k ∣ unsigned_abs n) (pos 100000000000000000000) (pos 0 ∷ pos 100000000000000000001 ∷ pos 100000000000000000000 ∷ []) rest_of in
    eq-one_of_dvd-one (dvd-sub k one two)

pub coprime_first : IsFirstRun coprimes 0 log to_alarm coprime_run
coprime_first = record {
  aimed = aimed;
  earliest = λ other h e. none_earlier coprimes 0 both_blank other h.run_of e;
  picks = picks;
  reduced = All-from_recursion IsReduced coprime_run.gaps (reduced, tt);
}

pub coprime_passes : FirstRunPasses coprimes log to_alarm coprime_run
unfolding gcd
coprime_passes = inr (rest (pos 10000000000000000000100000000000000000000) (pos 100000000000000000001) (pos 100000000000000000000), inl refl, (0, _, lit< tt, refl, lit≤ tt))
