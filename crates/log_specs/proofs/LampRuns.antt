-- The first runs of the lamp's log.
use Rattle.std.proofs.Common.{◌≡◌, inl, inr, ℕ, zero, suc, ◌<◌, ◌≤◌, List, [], ◌∷◌, length, map, take, Some, None, refl, sym, ◌∙◌, ap, subst, arith, ℤ, pos, negsuc, ◌+ℤ◌, ◌*ℤ◌, ◌≤ℤ◌, ◌<ℤ◌, lit<, lit≤, unsigned_abs, true, false, codes}
use Rattle.std.specs.Prelude.{IsTrue, IsFalse, IsSomeAnd}
use Rattle.std.specs.List.{AllZip}
use Rattle.std.specs.Int.{◌∣◌}
use Rattle.std.proofs.Math.Nat.{eq-one_of_dvd-one}
use Rattle.std.proofs.lemmas.Int.{ints}
use Rattle.std.proofs.lemmas.List.Elements.{All-from_recursion}
use Rattle.poly_specs.proofs.FractionLemmas.{same-trans}
use Rattle.poly_specs.specs.Elimination.{gcd}
use Rattle.poly_specs.specs.Fractions.{Fraction, IsFraction, SameFraction, AtMost, zero_fraction}
use Rattle.poly_specs.specs.LowestTerms.{IsLowest}
use Rattle.poly_specs.specs.Rows.{Point, Row, over, Holds, AllHold}
use Rattle.poly_specs.specs.Picks.{IsPick, IsInteger}
use Rattle.poly_specs.specs.Bits.{FitsBits}
use Rattle.run_specs.proofs.AimLemmas.{alarm_visit, zip_equal}
use Rattle.run_specs.specs.Automaton.{Location, location_at, transition_at, never}
use Rattle.run_specs.specs.Names.{is_name}
use Rattle.run_specs.specs.WellFormed.{HasBox, IsLocation, IsTransition, IsWellFormed}
use Rattle.run_specs.specs.Logs.{Sample, cell_at, IsPassing}
use Rattle.run_specs.specs.Runs.{Leg, Move, GapRun, Place, Run, IsLeg, IsJump, LeadOn, IsGapRun, Continues, Follows, IsStart, IsRun, VisitsUnsafe, path_of, end_of, total}
use Rattle.run_specs.specs.Histories.{history_of, IsEarlier}
use Rattle.run_specs.specs.Aims.{IsAimedRun, to_alarm}
use Rattle.run_specs.specs.FirstRun.{picked, pick_at, IsLeft, IsReduced, IsFirstRun}
use Rattle.run_specs.specs.Verdicts.{IsAlarmed}
use Rattle.replay_specs.specs.RunTexts.{AreWritableValues, IsWritableLeg, IsWritableMove, IsWritableGap, IsWritable}
use Rattle.log_specs.specs.AlarmExamples.{at_most_zero, lamp, lit_for, lit_run, first_run, second_run}

-- ---- the lamp is well-formed

zero_lowest : IsLowest zero_fraction
unfolding gcd
zero_lowest = record { positive = record { lt = tt }; lowest_terms = refl }

abbrev starts : List Row
starts = at_most_zero (pos 1 ∷ []) ∷ at_most_zero (negsuc 0 ∷ []) ∷ []

abbrev slopes : List Row
slopes = at_most_zero (pos 1 ∷ pos 0 ∷ []) ∷ at_most_zero (negsuc 0 ∷ pos 0 ∷ []) ∷ []

abbrev on : Location
on = record { name = codes "on"; is_unsafe = true; init = Some starts; invariant = []; slopes = slopes }

box : (j : ℕ) → j < 1 → HasBox 1 slopes j
box zero h = record { above = record { lt = tt }; below = record { lt = tt }; others = λ i l n. alone i l n }
  where
    alone : {P : Type 0} (i : ℕ) → i < 1 → (i ≡ 0 → ⊥) → P
    alone zero l n = absurd (n refl)
    alone (suc i) l n = absurd (omega arith)
box (suc j) h = absurd (omega arith)

abbrev Wide : ℕ → Row → Type 0
Wide w r = length r.coef ≡ w

on_is : IsLocation 1 on
on_is = record {
  name = refl;
  init = All-from_recursion (Wide 1) starts (refl, (refl, tt));
  invariant = All-from_recursion (Wide 1) [] tt;
  slopes = All-from_recursion (Wide 2) slopes (refl, (refl, tt));
  homogeneous = All-from_recursion (λ (r : Row). (r.cst ≡ pos 0) × IsFalse r.strict) slopes ((refl, refl), ((refl, refl), tt));
  boxed = lit≤ tt;
  boxes = box;
}

pub lamp_is : IsWellFormed lamp
lamp_is = record {
  name = refl;
  variables = (lit≤ tt, lit≤ tt);
  variable_names = All-from_recursion (λ x. IsTrue (is_name x)) lamp.variables (refl, tt);
  locations = (lit≤ tt, lit≤ tt);
  transitions = lit≤ tt;
  tolerances = (refl, All-from_recursion (λ w. IsLowest w × AtMost zero_fraction w) lamp.obs ((zero_lowest, record { le = tt }), tt));
  each_location = All-from_recursion (IsLocation 1) lamp.locations (on_is, tt);
  each_transition = All-from_recursion (IsTransition 1 1) lamp.transitions tt;
}

-- ---- the two runs

-- a sample without a cell at this time
abbrev pub at_time : ℕ → Sample
at_time t = record { time = record { num = pos t; den = pos 1 }; cells = None ∷ [] }

no_rows : (p : Point) → AllHold [] p
no_rows p = All-from_recursion (λ r. Holds r p) [] tt

leg_is : (t : ℕ) → IsLeg (location_at lamp 0) (pos 1) (pos 0 ∷ []) (pos t) (pos 0 ∷ [])
leg_is t = record {
  same_size = refl;
  lasts = omega (arith, ints);
  inside_before = no_rows (over (pos 1) (pos 0 ∷ []));
  inside_after = no_rows (over (pos 1) (pos 0 ∷ []));
  still = λ _. refl;
  straight = λ _. All-from_recursion (λ r. Holds r (over (pos 1) (pos 0 ∷ pos t ∷ []))) slopes (omega (arith, ints), (omega (arith, ints), tt));
}

nothing : (j : ℕ) (v : Fraction) → cell_at j (None ∷ []) ≡ Some v → ⊥
nothing zero v e = let b : ⊥ = cc in b
nothing (suc j) v e = let b : ⊥ = cc in b

passing : IsPassing lamp (None ∷ []) (over (pos 1) (pos 0 ∷ []))
passing = record { sized = refl; near = λ j v e. absurd (nothing j v e) }

start_is : IsStart lamp first_run.start
start_is = record {
  positive = record { lt = tt };
  sized = refl;
  allowed = All-from_recursion (λ r. Holds r (over (pos 1) (pos 0 ∷ []))) starts (record { le = tt }, (record { le = tt }, tt));
}

-- a gap of length t at the time t, from the time 0 on
goes_on : (before : Place) (t : ℕ) → before.loc ≡ 0 → before.point ≡ over (pos 1) (pos 0 ∷ []) →
    Continues lamp 2 before (record { num = pos t; den = pos 1 }) (at_time t) (lit_for t)
goes_on before t l p = record {
  same_loc = sym l;
  same_point = subst (λ (q : Point). map (λ n. n *ℤ q.den) (pos 0 ∷ []) ≡ map (λ n. n *ℤ pos 1) q.num) (sym p) refl;
  few = lit≤ tt;
  gap_run = record { positive = record { lt = tt }; leads = leg_is t; lasts = refl };
  passes = passing;
}

visits : (gaps : List GapRun) → VisitsUnsafe lamp (lit_run (lit_for 0 ∷ gaps))
visits gaps = (0, _, omega arith, refl, refl)

first_is_run : IsRun lamp 2 (at_time 0 ∷ []) first_run
first_is_run = record { starts = start_is; follows = (goes_on first_run.start 0 refl refl, tt) }

second_is_run : IsRun lamp 2 (at_time 0 ∷ at_time 1 ∷ []) second_run
second_is_run = record {
  starts = start_is;
  follows = (goes_on first_run.start 0 refl refl, (goes_on first_run.start 1 refl refl, tt));
}

first_aimed : IsAimedRun lamp 2 (at_time 0 ∷ []) to_alarm first_run
first_aimed = record { run_of = first_is_run; meets = (alarm_visit lamp first_run).1 (visits []) }

second_aimed : IsAimedRun lamp 2 (at_time 0 ∷ at_time 1 ∷ []) to_alarm second_run
second_aimed = record { run_of = second_is_run; meets = (alarm_visit lamp second_run).1 (visits (lit_for 1 ∷ [])) }

pub first_alarmed : IsAlarmed lamp 2 (at_time 0 ∷ [])
first_alarmed = (first_run, first_is_run, visits [])

pub second_alarmed : IsAlarmed lamp 2 (at_time 0 ∷ at_time 1 ∷ [])
second_alarmed = (second_run, second_is_run, visits (lit_for 1 ∷ []))

-- ---- no run jumps, and each starts in the one location

no_moves : (d : ℤ) (l : ℕ) (p : List ℤ) (ms : List Move) (last : Leg) → pos 0 <ℤ d → LeadOn lamp d l p ms last → ms ≡ []
no_moves d l p [] last h leads = refl
no_moves d l p (m ∷ ms) last h leads = absurd (let n = leads.2.related 0 never (lit< tt) in omega (arith, ints, n, h))

start_loc : (p : Place) → IsStart lamp p → p.loc ≡ 0
start_loc p s = go p.loc refl s.allowed
  where
    go : (l : ℕ) → p.loc ≡ l → IsSomeAnd (location_at lamp l).init (λ init. AllHold init p.point) → p.loc ≡ 0
    go zero e h = e
    go (suc l) e h = absurd h

paths_of_one : (before : Place) (t : Fraction) (s : Sample) (gs : List GapRun) → Follows lamp 2 before t (s ∷ []) gs → map path_of gs ≡ [] ∷ []
paths_of_one before t s [] h = absurd h
paths_of_one before t s (g ∷ k ∷ gs) h = absurd h.1
paths_of_one before t s (g ∷ []) h =
    ap (λ ms. map (λ m. m.transition) ms ∷ []) (no_moves g.den g.start_loc g.start g.moves g.last h.0.gap_run.positive h.0.gap_run.leads)

paths_of_two : (before : Place) (t : Fraction) (s r : Sample) (gs : List GapRun) → Follows lamp 2 before t (s ∷ r ∷ []) gs → map path_of gs ≡ [] ∷ [] ∷ []
paths_of_two before t s r [] h = absurd h
paths_of_two before t s r (g ∷ gs) h =
    ap (λ ms. map (λ m. m.transition) ms ∷ map path_of gs) (no_moves g.den g.start_loc g.start g.moves g.last h.0.gap_run.positive h.0.gap_run.leads)
    ∙ ap (λ ps. [] ∷ ps) (paths_of_one (end_of lamp g) s.time r gs h.1)

-- ---- the picks

pick_zero : (S : Fraction → Type 0) → S zero_fraction → IsPick S zero_fraction
pick_zero S s = record {
  positive = record { lt = tt };
  some = (zero_fraction, record { lt = tt }, s);
  kind = inl (record { inside = s; integer = (pos 0, refl); nearest = λ y hy t i. omega (arith, ints) });
}

own_first : (i : ℕ) → IsLeft lamp 2 (at_time 0 ∷ []) to_alarm first_run i (pick_at i first_run)
own_first i = (
  first_run,
  record { aimed = first_aimed; same_history = refl; same_numbers = zip_equal (take i (picked first_run)) (take i (picked first_run)) refl; value = refl },
)

own_second : (i : ℕ) → IsLeft lamp 2 (at_time 0 ∷ at_time 1 ∷ []) to_alarm second_run i (pick_at i second_run)
own_second i = (
  second_run,
  record { aimed = second_aimed; same_history = refl; same_numbers = zip_equal (take i (picked second_run)) (take i (picked second_run)) refl; value = refl },
)

first_picks : (i : ℕ) → i < 3 → IsPick (IsLeft lamp 2 (at_time 0 ∷ []) to_alarm first_run i) (pick_at i first_run)
first_picks zero h = pick_zero (IsLeft lamp 2 (at_time 0 ∷ []) to_alarm first_run 0) (own_first 0)
first_picks (suc zero) h = pick_zero (IsLeft lamp 2 (at_time 0 ∷ []) to_alarm first_run 1) (own_first 1)
first_picks (suc (suc zero)) h = pick_zero (IsLeft lamp 2 (at_time 0 ∷ []) to_alarm first_run 2) (own_first 2)
first_picks (suc (suc (suc i))) h = absurd (omega arith)

one_number : (ns : List ℤ) → length ns ≡ 1 → (x : ℤ) × (ns ≡ x ∷ [])
one_number [] e = absurd (omega (arith, e))
one_number (x ∷ []) e = (x, refl)
one_number (x ∷ y ∷ ns) e = absurd (omega (arith, e))

abbrev whole_one : Fraction
whole_one = record { num = pos 1; den = pos 1 }

-- the length of a last gap without jumps is the second number
second_number : (start : Place) (g k : GapRun) (x : ℤ) → k.moves ≡ [] → k.last.at_end ≡ x ∷ [] →
    pick_at 1 (record { start = start; gaps = g ∷ k ∷ [] }) ≡ record { num = k.last.length_of; den = k.den }
second_number start g k x e f =
    let plain : k ≡ record { den = k.den; start_loc = k.start_loc; start = k.start; moves = []; last = record { length_of = k.last.length_of; at_end = x ∷ [] } } =
    λ i. record { den = k.den; start_loc = k.start_loc; start = k.start; moves = e i; last = record { length_of = k.last.length_of; at_end = f i } } in
    ap (λ (h : GapRun). pick_at 1 (record { start = start; gaps = g ∷ h ∷ [] })) plain

-- the last gap lasts from 0 to 1
lasts_one : (y : Fraction) → IsFraction y → IsLeft lamp 2 (at_time 0 ∷ at_time 1 ∷ []) to_alarm second_run 1 y → SameFraction whole_one y
lasts_one y hy (other, t) = go other.gaps refl t.aimed.run_of.follows
  where
    go : (gs : List GapRun) → other.gaps ≡ gs → Follows lamp 2 other.start zero_fraction (at_time 0 ∷ at_time 1 ∷ []) gs → SameFraction whole_one y
    go [] e h = absurd h
    go (g ∷ []) e h = absurd h.1
    go (g ∷ k ∷ m ∷ gs) e h = absurd h.1.1
    go (g ∷ k ∷ []) e h =
        let c = h.1.0 in
        let moves = no_moves k.den k.start_loc k.start k.moves k.last c.gap_run.positive c.gap_run.leads in
        let x = one_number k.last.at_end c.passes.sized in
        let sum : total k.moves k.last ≡ k.last.length_of = ap (λ ms. total ms k.last) moves in
        let lasts = c.gap_run.lasts in
        let one : pos 1 *ℤ k.den ≡ k.last.length_of *ℤ pos 1 = omega (arith, ints, lasts, sum) in
        let number : pick_at 1 other ≡ record { num = k.last.length_of; den = k.den } =
        ap (λ gs. pick_at 1 (record { start = other.start; gaps = gs })) e ∙ second_number other.start g k x.0 moves x.1 in
        same-trans whole_one (record { num = k.last.length_of; den = k.den }) y (record { lt = tt }) c.gap_run.positive hy one
        (subst (λ (v : Fraction). SameFraction v y) number t.value)

nearer : (n d : ℤ) → pos 0 <ℤ d → pos 1 *ℤ d ≡ n *ℤ pos 1 → (pos 1 *ℤ d) ≤ℤ (pos (unsigned_abs n) *ℤ pos 1)
nearer (pos n) d h e = omega (arith, ints, e)
nearer (negsuc n) d h e = absurd (omega (arith, ints, e, h))

pick_one : IsPick (IsLeft lamp 2 (at_time 0 ∷ at_time 1 ∷ []) to_alarm second_run 1) whole_one
pick_one = record {
  positive = record { lt = tt };
  some = (whole_one, record { lt = tt }, own_second 1);
  kind = inl (record { inside = own_second 1; integer = (pos 1, refl); nearest = λ y hy s i. nearer y.num y.den hy (lasts_one y hy s) });
}

second_picks : (i : ℕ) → i < 5 → IsPick (IsLeft lamp 2 (at_time 0 ∷ at_time 1 ∷ []) to_alarm second_run i) (pick_at i second_run)
second_picks zero h = pick_zero (IsLeft lamp 2 (at_time 0 ∷ at_time 1 ∷ []) to_alarm second_run 0) (own_second 0)
second_picks (suc zero) h = pick_one
second_picks (suc (suc zero)) h = pick_zero (IsLeft lamp 2 (at_time 0 ∷ at_time 1 ∷ []) to_alarm second_run 2) (own_second 2)
second_picks (suc (suc (suc zero))) h = pick_zero (IsLeft lamp 2 (at_time 0 ∷ at_time 1 ∷ []) to_alarm second_run 3) (own_second 3)
second_picks (suc (suc (suc (suc zero)))) h = pick_zero (IsLeft lamp 2 (at_time 0 ∷ at_time 1 ∷ []) to_alarm second_run 4) (own_second 4)
second_picks (suc (suc (suc (suc (suc i))))) h = absurd (omega arith)

-- ---- the first runs

none_before_first : (other : Run) → IsAimedRun lamp 2 (at_time 0 ∷ []) to_alarm other → IsEarlier (history_of other) (history_of first_run) → ⊥
none_before_first other aimed e =
    let paths = paths_of_one other.start zero_fraction (at_time 0) other.gaps aimed.run_of.follows in
    let same : history_of other ≡ history_of first_run = λ i. record { start = start_loc other.start aimed.run_of.starts i; paths = paths i } in
    let f : IsEarlier (history_of first_run) (history_of first_run) = subst (λ h. IsEarlier h (history_of first_run)) same e in
    let b : ⊥ = cc in b

none_before_second : (other : Run) → IsAimedRun lamp 2 (at_time 0 ∷ at_time 1 ∷ []) to_alarm other → IsEarlier (history_of other) (history_of second_run) → ⊥
none_before_second other aimed e =
    let paths = paths_of_two other.start zero_fraction (at_time 0) (at_time 1) other.gaps aimed.run_of.follows in
    let same : history_of other ≡ history_of second_run = λ i. record { start = start_loc other.start aimed.run_of.starts i; paths = paths i } in
    let f : IsEarlier (history_of second_run) (history_of second_run) = subst (λ h. IsEarlier h (history_of second_run)) same e in
    let b : ⊥ = cc in b

pub first_is_first : IsFirstRun lamp 2 (at_time 0 ∷ []) to_alarm first_run
first_is_first = record {
  aimed = first_aimed;
  earliest = none_before_first;
  picks = first_picks;
  reduced = All-from_recursion IsReduced first_run.gaps (λ k h all. eq-one_of_dvd-one h, tt);
}

pub second_is_first : IsFirstRun lamp 2 (at_time 0 ∷ at_time 1 ∷ []) to_alarm second_run
second_is_first = record {
  aimed = second_aimed;
  earliest = none_before_second;
  picks = second_picks;
  reduced = All-from_recursion IsReduced second_run.gaps (λ k h all. eq-one_of_dvd-one h, (λ k h all. eq-one_of_dvd-one h, tt));
}

-- ---- they have texts

zero_is_writable : AreWritableValues (pos 0 ∷ [])
zero_is_writable = record { some = lit≤ tt; few = lit≤ tt; fit = All-from_recursion FitsBits (pos 0 ∷ []) (lit< tt, tt) }

gap_is_writable : (t : ℕ) → t ≤ 1 → IsWritableGap (lit_for t)
gap_is_writable t h = record {
  positive = record { le = tt };
  den = lit< tt;
  start_loc = lit< tt;
  start = zero_is_writable;
  moves = All-from_recursion IsWritableMove [] tt;
  last = record { time = omega (arith, h); at_end = zero_is_writable };
}

pub first_is_writable : IsWritable first_run.gaps
first_is_writable = record { some = lit≤ tt; few = lit< tt; each = All-from_recursion IsWritableGap first_run.gaps (gap_is_writable 0 (lit≤ tt), tt) }

pub second_is_writable : IsWritable second_run.gaps
second_is_writable = record {
  some = lit≤ tt;
  few = lit< tt;
  each = All-from_recursion IsWritableGap second_run.gaps (gap_is_writable 0 (lit≤ tt), (gap_is_writable 1 (lit≤ tt), tt));
}
