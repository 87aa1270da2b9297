-- One step of the walk: over the gap that a first run has there.
use Rattle.std.proofs.Common.{◌≡◌, inl, inr, ℕ, suc, ◌<◌, ◌≤◌, List, [], ◌∷◌, ◌++◌, length, length-append, map, take, drop, Option, refl, sym, ◌∙◌, ap, ap₂, subst, arith, ℤ, pos, ◌<ℤ◌}
use Rattle.std.specs.Prelude.{All, IsSomeAnd, reverse}
use Rattle.std.specs.List.{AllZip}
use Rattle.std.proofs.lemmas.Int.{ints}
use Rattle.std.proofs.lemmas.List.{length-map, length-take-le, reverse-append, take-append-drop}
use Rattle.std.proofs.lemmas.List.Elements.{recursion_from_All, All-append, All-cons, All-nil}
use Rattle.frac128.proofs.CommonLemmas.{common_positive}
use Rattle.gap_runs.proofs.AgreePicks.{zip_from}
use Rattle.gap_runs.specs.Befores.{common_point}
use Rattle.gap_runs.specs.Gaps.{GapValue, IsPickedGap, IsGapBack, GapBackPasses}
use Rattle.poly_specs.proofs.LowestLemmas.{same-lowest}
use Rattle.poly_specs.specs.Denominators.{common_den, num_over}
use Rattle.poly_specs.specs.Fractions.{Fraction, IsFraction, SameFraction, fractions, difference, zero_fraction}
use Rattle.poly_specs.specs.Lists.{In}
use Rattle.poly_specs.specs.Pickings.{Picking, PickPasses}
use Rattle.poly_specs.specs.Rows.{Row, over, AllHold, SamePoint}
use Rattle.replay_specs.specs.RunTexts.{IsWritableGap}
use Rattle.run_parts.proofs.Choices.{are_all, point_agree, zip_through}
use Rattle.run_parts.proofs.FirstGaps.{gap_common}
use Rattle.run_parts.proofs.RunParts.{first_run_picked}
use Rattle.run_parts.proofs.WideGaps.{run_gaps_wide}
use Rattle.run_specs.proofs.AimLemmas.{last_of, some_gap, zip_back}
use Rattle.run_specs.proofs.MixRuns.{length-same_point}
use Rattle.run_specs.proofs.OverflowLemmas.{IsGapOf, key_stages}
use Rattle.run_specs.proofs.PassesLemmas.{LogPasses-longer}
use Rattle.run_specs.proofs.PickedLemmas.{length-fractions}
use Rattle.run_specs.proofs.RunEndLemmas.{IsKeyOf, history-extended, other_duration}
use Rattle.run_specs.proofs.SessionLemmas.{last_from}
use Rattle.run_specs.specs.Aims.{to_alarm}
use Rattle.run_specs.specs.Automaton.{Automaton, width}
use Rattle.run_specs.specs.FirstRun.{last_values}
use Rattle.run_specs.specs.Histories.{History, history_of}
use Rattle.run_specs.specs.HistoryLogs.{log_of}
use Rattle.run_specs.specs.Keys.{Key, State, parent_at}
use Rattle.run_specs.specs.Logs.{Sample}
use Rattle.run_specs.specs.Outcomes.{Item, MayTake, IsEnd, IsItem}
use Rattle.run_specs.specs.Passes.{AllFit, PassesAlong, LogPasses, history_stages}
use Rattle.run_specs.specs.RunPasses.{pickings}
use Rattle.run_specs.specs.Runs.{GapRun, Place, Run, IsGapRun, path_of, start_point, end_point}
use Rattle.run_specs.specs.SessionHistories.{SessionHistory, IsHistory}
use Rattle.run_specs.specs.Stages.{SomeReachedPasses, gap_stages}
use Rattle.run_specs.specs.StateHistories.{followed, states_at, state_at, history_at}
use Rattle.alarm_run.proofs.EntryLemmas.{IsLeaving}
use Rattle.alarm_run.proofs.GapLemmas.{IsGapAt, ends_at, gap_at, gap_passes, last_loc}
use Rattle.alarm_run.proofs.RunAt.{are_plain, gap_starts, init, is_log, log, long, opening, plain, plain_rows, plain_state, run_before, runs, same_loc, start_is, taken}
use Rattle.alarm_run.specs.Entries.{key_at}
use Rattle.alarm_run.specs.Walks.{WalkValue, IsAlarmed, AlarmedPasses, IsPlace, IsWalked, run_to}

-- ---- lists

no_more : {A : Type 0} (x y z : A) (xs : List A) → x ∷ [] ≡ y ∷ z ∷ xs → ⊥
no_more x y z xs e = cc

one_head : {A : Type 0} (x y : A) (xs ys : List A) → x ∷ xs ≡ y ∷ ys → (x ≡ y) × (xs ≡ ys)
one_head x y xs ys e = let f : x ≡ y = cc in let g : xs ≡ ys = cc in (f, g)

-- lists that are equal with one more each are equal, and so are these
same_ends : {A : Type 0} (xs ys : List A) (x y : A) → xs ++ x ∷ [] ≡ ys ++ y ∷ [] → (xs ≡ ys) × (x ≡ y)
same_ends [] [] x y e = (refl, (one_head x y [] [] e).0)
same_ends [] (w ∷ ys) x y e = absurd (omega (arith, ap length e, length-append ys (y ∷ [])))
same_ends (z ∷ xs) [] x y e = absurd (omega (arith, ap length e, length-append xs (x ∷ [])))
same_ends (z ∷ xs) (w ∷ ys) x y e =
    let both = one_head z w (xs ++ x ∷ []) (ys ++ y ∷ []) e in
    let rest = same_ends xs ys x y both.1 in
    (λ j. both.0 j ∷ rest.0 j, rest.1)

last-append : (gs : List GapRun) (g : GapRun) → last_values (gs ++ g ∷ []) ≡ fractions g.den g.last.at_end
last-append [] g = refl
last-append (x ∷ []) g = refl
last-append (x ∷ y ∷ gs) g = last-append (y ∷ gs) g

-- ---- a point and its numbers

pub common_at : (m : ℕ) (xs : List Fraction) → All IsFraction xs → length xs ≡ m → (pos 0 <ℤ (common_point xs).den) × (length (common_point xs).num ≡ m)
common_at m xs all e =
    let d = common_positive xs (recursion_from_All IsFraction xs all) in (omega (arith, ints, d), length-map xs (num_over (common_den xs)) ∙ e)

zip_same : (d c : ℤ) (ns ms : List ℤ) → SamePoint (over d ns) (over c ms) → AllZip SameFraction (fractions d ns) (fractions c ms)
zip_same d c ns ms same =
    let long : length (fractions d ns) ≡ length (fractions c ms) = length-fractions d ns ∙ length-same_point (over d ns) (over c ms) same ∙ sym (length-fractions c ms) in
    zip_from (fractions d ns) (fractions c ms) long (point_agree (length (fractions d ns)) d c ns ms same)

-- ---- the step

module _ (h : SessionHistory) (is : IsHistory h) (i : ℕ) (gap : Fraction) (seen : List (Option Fraction)) (items : List Item) (e : IsLeaving h i gap seen items) (hi : i < length h.gaps)
    (w : WalkValue) (place : IsPlace h (suc i) w) (y : Item) (iy : In y items) (state : state_at h (suc i) w.number ≡ y.state)
    (from : history_at h (suc i) w.number ≡ followed (history_at h i y.parent) y.path) where
  abbrev key : Key
  key = key_at h i gap seen

  item : IsItem key y
  item = e.exact.each y iy

  pub step_may : MayTake key y.parent y.path
  step_may = item.may_take

  pub step_reached : IsEnd key y.parent y.path (common_point w.last)
  step_reached =
      let at = common_at (width h.automaton) w.last place.fractions place.sized in
      (item.ends (common_point w.last) at.0 at.1).0 (subst (λ (x : State). AllHold x.rows (common_point w.last)) state place.inside)

  -- where the walk stands next
  abbrev pub next : GapValue → WalkValue
  next b = record { number = y.parent; last = b.start; gaps = w.gaps ++ b.gap ∷ [] }

  pub step_place : (b : GapValue) → length b.start ≡ width h.automaton → All IsFraction b.start → AllHold (parent_at key y.parent).rows (common_point b.start) → IsWritableGap b.gap → IsPlace h i (next b)
  step_place b sized all inside writable = record {
    below = item.may_take.parent;
    sized = sized;
    fractions = all;
    inside = inside;
    writable = All-append IsWritableGap w.gaps (b.gap ∷ []) place.writable (All-cons IsWritableGap b.gap [] writable (All-nil IsWritableGap));
  }

  -- ---- the gap that a first run has there

  module _ (n : ℕ) (run : Run) (hn : i < n) (few : n ≤ length h.gaps) (first : IsAlarmed h n run) (walked : IsWalked h (suc i) run w) where
    abbrev a : Automaton
    a = h.automaton

    abbrev before : Run
    before = run_to i run

    found : (s : Sample) × (g : GapRun) × IsGapAt a h.jumps run.start zero_fraction (log h is n run few first) run.gaps i s g
    found = gap_at a h.jumps run.start zero_fraction (log h is n run few first) run.gaps i (runs h is n run few first).follows (omega (arith, hn, long h is n run few first))

    abbrev s : Sample
    s = found.0

    abbrev g : GapRun
    g = found.1

    at : IsGapAt a h.jumps run.start zero_fraction (log h is n run few first) run.gaps i s g
    at = found.2

    one_more : history_of (run_to (suc i) run) ≡ followed (history_of before) (path_of g)
    one_more = ap (λ (gs : List GapRun). history_of (record run { gaps = gs })) at.gaps_are ∙ history-extended before g

    both : followed (history_at h i y.parent) y.path ≡ followed (history_of before) (path_of g)
    both = sym from ∙ walked.along ∙ one_more

    parts : ((history_at h i y.parent).paths ≡ map path_of before.gaps) × (y.path ≡ path_of g)
    parts = same_ends (history_at h i y.parent).paths (map path_of before.gaps) y.path (path_of g) (ap (λ (x : History). x.paths) both)

    along : history_at h i y.parent ≡ history_of before
    along = ap₂ (λ l (paths : List (List ℕ)). record { start = l; paths = paths }) (ap (λ (x : History). x.start) both) parts.0

    below : y.parent < length (states_at h i)
    below = item.may_take.parent

    le : i ≤ n
    le = omega (arith, hn)

    abbrev rows : List Row
    rows = plain h is n run few first i le y.parent below along

    of_key : IsKeyOf (take i (log_of h)) s key
    of_key =
        e.sample s
        (sym (taken h is n run few first (suc i) hn) ∙ at.log_is ∙ ap (λ (ss : List Sample). ss ++ s ∷ []) (taken h is n run few first i le))

    abbrev duration : Fraction
    duration = difference s.time (last_from zero_fraction (take i (log h is n run few first)))

    lasts : IsGapRun a gap g
    lasts =
        other_duration a duration gap g (subst (λ ss. IsFraction (difference s.time (last_from zero_fraction ss))) (sym (taken h is n run few first i le)) of_key.duration_is) of_key.gap_is
        (subst (λ ss. SameFraction (difference s.time (last_from zero_fraction ss)) gap) (sym (taken h is n run few first i le)) (sym of_key.gap)) at.continues.gap_run

    picked_gap : IsPickedGap key y.parent y.path rows w.last g
    picked_gap = record {
      same_loc = at.continues.same_loc ∙ same_loc h is n run few first i le y.parent below along;
      along = sym parts.1;
      wide = run_gaps_wide a h.jumps (log h is n run few first) run g (runs h is n run few first) at.has;
      gap_run = lasts;
      allowed = gap_starts h is n run few first i le y.parent below along s g hn at;
      ends = subst (λ xs. AllZip SameFraction xs w.last) (ap last_values at.gaps_are ∙ last-append before.gaps g) (walked.ends (omega arith));
      picked = λ p j.
          first_run_picked a h.jumps (log h is n run few first) to_alarm run (init h is n run few first) p is.automaton (is_log h is n run few first) first (start_is h is n run few first)
          (inr (at.picks (opening h is n run few first) p j));
      least = gap_common a h.jumps (log h is n run few first) to_alarm run g first at.has;
    }

    ends_before : (b : GapValue) → AllZip SameFraction (fractions g.den g.start) b.start → 0 < i → AllZip SameFraction (last_values before.gaps) b.start
    ends_before b zip some =
        let (l, il) = last_of a h.jumps run.start zero_fraction (take i (log h is n run few first)) before.gaps none (run_before h is n run few first i le).follows in
        let same : SamePoint (start_point g) (end_point l) = subst (λ (p : Place). SamePoint (start_point g) p.point) (il.place run.start) at.continues.same_point in
        zip_through (last_values before.gaps) (fractions g.den g.start) b.start (are_all g.den g.start at.continues.gap_run.positive)
        (subst (λ xs. AllZip SameFraction xs (fractions g.den g.start)) (sym il.values) (zip_back (fractions g.den g.start) (fractions l.den l.last.at_end) (zip_same g.den l.den g.start l.last.at_end same))) zip
      where
        none : before.gaps ≡ [] → ⊥
        none f = some_gap a h.jumps run.start zero_fraction (take i (log h is n run few first)) before.gaps (λ f. omega (arith, ap length f, length-take-le i (log h is n run few first) (omega (arith, le, long h is n run few first)), some))
            (run_before h is n run few first i le).follows f

    pub step_walked : (b : GapValue) → IsGapBack key y.parent y.path w.last b → IsWalked h i run (next b)
    step_walked b back =
        let both = back rows g (are_plain h is n run few first i le y.parent below along) picked_gap in
        record {
          along = along;
          ends = ends_before b both.1;
          later = at.later ∙ ap (λ (gs : List GapRun). g ∷ gs) walked.later ∙ ap (λ (x : GapRun). x ∷ reverse w.gaps) (sym both.0) ∙ sym (reverse-append w.gaps (b.gap ∷ []));
        }

    -- ---- where it passes

    of_gap : IsGapOf (last_from zero_fraction (take i (log h is n run few first))) s key
    of_gap = record {
      gap = sym e.is_key.gap.0.lowest_terms ∙ same-lowest gap duration of_key.gap_is duration_is (subst (λ ss. SameFraction gap (difference s.time (last_from zero_fraction ss))) (sym (taken h is n run few first i le)) of_key.gap);
      duration = duration_is;
      seen = of_key.seen;
    }
      where
        duration_is : IsFraction duration
        duration_is = subst (λ ss. IsFraction (difference s.time (last_from zero_fraction ss))) (sym (taken h is n run few first i le)) of_key.duration_is

    abbrev paths : List (List ℕ)
    paths = map path_of before.gaps

    here : (parent_at key y.parent).loc ≡ last_loc a run.start.loc paths
    here = sym (same_loc h is n run few first i le y.parent below along) ∙ ends_at a h.jumps run.start zero_fraction (take i (log h is n run few first)) before.gaps (run_before h is n run few first i le).follows

    fit_here : AllFit a h.jumps run.start.loc (paths ++ y.path ∷ [])
    fit_here = subst (λ (x : History). AllFit a h.jumps x.start x.paths) (one_more ∙ ap (λ p. followed (history_of before) p) (sym parts.1)) (plain_state h is n run few first (suc i) hn w.number place.below walked.along).fit

    stages_pass : SomeReachedPasses (gap_stages a (parent_at key y.parent).loc y.path gap seen rows) → LogPasses a h.jumps (log h is n run few first)
    stages_pass p =
        let front : List Sample = take i (log h is n run few first) in
        let reached = (plain_rows h is n run few first i le y.parent below along).reached in
        let many : length paths ≡ length front = (plain_state h is n run few first i le y.parent below along).one_for_each_gap in
        let told : SomeReachedPasses (gap_stages a (last_loc a run.start.loc paths) y.path duration s.cells rows) =
        subst (λ l. SomeReachedPasses (gap_stages a l y.path duration s.cells rows)) here
        (subst (λ stages. SomeReachedPasses stages) (key_stages (last_from zero_fraction front) s key (parent_at key y.parent).loc y.path rows of_gap) p) in
        let passes : PassesAlong a h.jumps (front ++ s ∷ []) run.start.loc (paths ++ y.path ∷ []) = record {
          one_for_each_gap = omega (arith, many, length-append paths (y.path ∷ []), length-append front (s ∷ []));
          fit = fit_here;
          passes = subst (λ o. IsSomeAnd o (λ rows. SomeReachedPasses (history_stages a (front ++ s ∷ []) run.start.loc (paths ++ y.path ∷ []) rows))) (sym (start_is h is n run few first))
              (inr (reached.0, gap_passes a run.start.loc zero_fraction front s paths y.path (opening h is n run few first) many reached.1 told));
        } in
        subst (λ ss. LogPasses a h.jumps ss) (ap (λ ss. ss ++ drop (suc i) (log h is n run few first)) (sym at.log_is) ∙ take-append-drop (suc i) (log h is n run few first))
        (LogPasses-longer a h.jumps (front ++ s ∷ []) (drop (suc i) (log h is n run few first)) (run.start.loc, paths ++ y.path ∷ [], passes))

    pub step_passes : GapBackPasses key y.parent y.path w.last → AlarmedPasses h n
    step_passes p = elim (p rows g (are_plain h is n run few first i le y.parent below along) picked_gap) [
      | inl stages ↦ inl (stages_pass stages)
      | inr (inl picking) ↦ inr (
        run,
        first,
        inl (subst (λ o. IsSomeAnd o (λ rows. (q : Picking) × In q (pickings a (log h is n run few first) run rows []) × PickPasses q)) (sym (start_is h is n run few first))
            (picking.0, inr (at.picks (opening h is n run few first) picking.0 picking.1), picking.2)),
      )
      | inr (inr numbers) ↦ inr (run, first, inr (g, at.has, numbers))
    ]
