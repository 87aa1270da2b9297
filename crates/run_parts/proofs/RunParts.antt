-- Each number of a first run is the pick of what its picking leaves open.
use Rattle.std.proofs.Common.{◌≡◌, inl, inr, ℕ, ◌+◌, ◌<◌, List, [], ◌∷◌, ◌++◌, length, length-append, IfSome, Some, refl, sym, ◌∙◌, ap, subst, arith, pos, ◌<ℤ◌}
use Rattle.std.specs.Prelude.{IsSomeAnd}
use Rattle.poly_specs.proofs.InclusionLemmas.{in_either}
use Rattle.run_specs.proofs.AimLemmas.{last_of, gaps_end}
use Rattle.run_specs.proofs.EndLemmas.{wide_both}
use Rattle.run_specs.proofs.FirstRunExists.{all_in, cells_are}
use Rattle.run_specs.proofs.HistoryEnds.{last_open}
use Rattle.run_specs.proofs.MixRuns.{runs_alike}
use Rattle.run_specs.proofs.OverflowLemmas.{opening_rows_are, starts_within}
use Rattle.run_specs.proofs.PickedLemmas.{length-fractions, picked_numbers}
use Rattle.run_specs.proofs.PickedValues.{zip_at_take, zip_take}
use Rattle.run_specs.proofs.RunEndLemmas.{all_same, starts_inside}
use Rattle.run_specs.proofs.RunNumbers.{visits_same}
use Rattle.run_specs.proofs.StageLemmas.{holds_both}
use Rattle.run_specs.proofs.StageWidths.{location_is, end_within, gap_wide}
use Rattle.run_parts.proofs.Choices.{pick_of_equal, at_place, at_front, at_back}
use Rattle.run_parts.proofs.GapParts.{GapTakes, GapPicks, back_of, gap_picked}
use Rattle.run_parts.proofs.RestParts.{AreSamples, RestTakes, IsOwnRest, numbers_of, later, numbers_parts, own_sized, own_within, own_fits, duration_is, gap_of_rest, rest_of_gap, next_of_rest, rest_of_next}
use Rattle.poly_specs.specs.Lists.{In}
use Rattle.poly_specs.specs.Fractions.{Fraction, fractions, difference, zero_fraction}
use Rattle.poly_specs.specs.Rows.{Row, AllHold, AllWide}
use Rattle.poly_specs.specs.Picks.{IsPick}
use Rattle.poly_specs.specs.Pickings.{Picking, IsOpen, ArePicked}
use Rattle.run_specs.specs.Automaton.{Automaton, width, location_at}
use Rattle.run_specs.specs.WellFormed.{IsWellFormed}
use Rattle.run_specs.specs.Logs.{Sample, IsSample, IsLog}
use Rattle.run_specs.specs.Runs.{GapRun, Place, Run, Follows, IsRun, path_of, end_of, start_point}
use Rattle.run_specs.specs.Stages.{rows_after, opening_stage, gap_start, gap_rows}
use Rattle.run_specs.specs.Histories.{History, history_of}
use Rattle.run_specs.specs.Aims.{Aim, IsAimedRun, EndsWhere}
use Rattle.run_specs.specs.FirstRun.{last_values, numbers_before, picked, pick_at, IsLeft, IsFirstRun}
use Rattle.run_specs.specs.RunPasses.{path_pickings, gaps_pickings, last_picking, pickings}

-- ---- gap after gap

module _ (a : Automaton) (k : ℕ) (wf : IsWellFormed a) (wanted : List Row) where
  -- each number of these gaps is the pick of what other runs leave for it
  abbrev RestPicks : Place → Fraction → List Sample → List Row → List GapRun → Type 0
  RestPicks before t ss rows gs = (i : ℕ) → i < length (numbers_of gs) → IsPick (RestTakes a k wf wanted before.loc t ss rows gs i) (at_place i (numbers_of gs))

  module _ (before : Place) (t : Fraction) (s : Sample) (ss : List Sample) (rows : List Row) (g : GapRun) (gs : List GapRun) (own : IsOwnRest a k wf wanted before t (s ∷ ss) rows (g ∷ gs))
      (picks : RestPicks before t (s ∷ ss) rows (g ∷ gs)) where
    long : length (numbers_of (g ∷ gs)) ≡ length (later g gs) + length (back_of g)
    long = ap length (numbers_parts g gs) ∙ omega (arith, length-append (later g gs) (fractions g.den (back_of g)), length-fractions g.den (back_of g))

    gap_picks : GapPicks a wf (difference s.time t) rows g
    gap_picks i hi =
        let n : ℕ = length (later g gs) in
        let number : at_place (n + i) (numbers_of (g ∷ gs)) ≡ at_place i (fractions g.den (back_of g)) =
        ap (at_place (n + i)) (numbers_parts g gs) ∙ at_back n i (later g gs) (fractions g.den (back_of g)) refl in
        pick_of_equal (RestTakes a k wf wanted before.loc t (s ∷ ss) rows (g ∷ gs) (n + i)) (GapTakes a wf (difference s.time t) rows g i) (at_place i (fractions g.den (back_of g)))
        (λ v hv o. gap_of_rest a k wf wanted before t s ss rows g gs own i v o, λ v hv o. rest_of_gap a k wf wanted before t s ss rows g gs own i v o)
        (subst (IsPick (RestTakes a k wf wanted before.loc t (s ∷ ss) rows (g ∷ gs) (n + i))) number (picks (n + i) (omega (arith, hi, long))))

    first_picked : (pk : Picking) → In pk (path_pickings a g.den g.start_loc (pos 0) (gap_start (width a) rows) g.start g.moves g.last) → ArePicked pk
    first_picked =
        gap_picked a wf (difference s.time t) rows g (duration_is a k wf wanted before t s ss rows g gs own) own.wide (own_sized a k wf wanted before t s ss rows g gs own) own.follows.0.gap_run
        (own_within a k wf wanted before t s ss rows g gs own) gap_picks

    next_own : EndsWhere wanted gs → IsOwnRest a k wf wanted (end_of a g) s.time ss (gap_rows a g.start_loc (path_of g) (difference s.time t) s.cells rows) gs
    next_own ends = record {
      samples = λ x i. own.samples x (inr i);
      time = (own.samples s (inl refl)).1;
      within = end_within a wf g.start_loc (path_of g) (own_within a k wf wanted before t s ss rows g gs own) (own_fits a k wf wanted before t s ss rows g gs own);
      at = record { positive = own.follows.0.gap_run.positive; sized = own.follows.0.passes.sized };
      wide = gap_wide a wf g.start_loc (path_of g) (difference s.time t) s.cells rows (own_within a k wf wanted before t s ss rows g gs own) (own_fits a k wf wanted before t s ss rows g gs own) own.wide;
      follows = own.follows.1;
      ends = ends;
    }

    next_picks : (i : ℕ) → i < length (numbers_of gs) → at_place i (numbers_of (g ∷ gs)) ≡ at_place i (numbers_of gs) →
        IsPick (RestTakes a k wf wanted (end_of a g).loc s.time ss (gap_rows a g.start_loc (path_of g) (difference s.time t) s.cells rows) gs i) (at_place i (numbers_of gs))
    next_picks i hi number =
        pick_of_equal (RestTakes a k wf wanted before.loc t (s ∷ ss) rows (g ∷ gs) i)
        (RestTakes a k wf wanted (end_of a g).loc s.time ss (gap_rows a g.start_loc (path_of g) (difference s.time t) s.cells rows) gs i) (at_place i (numbers_of gs))
        (λ v hv o. next_of_rest a k wf wanted before t s ss rows g gs own i v hi o, λ v hv o. rest_of_next a k wf wanted before t s ss rows g gs own i v hi o)
        (subst (IsPick (RestTakes a k wf wanted before.loc t (s ∷ ss) rows (g ∷ gs) i)) number (picks i (within gs hi)))
      where
        within : (xs : List GapRun) → i < length (numbers_of xs) → i < length (numbers_of (g ∷ xs))
        within [] h = absurd (omega arith)
        within (x ∷ xs) h = omega (arith, h, ap length (numbers_parts g (x ∷ xs)), length-append (numbers_of (x ∷ xs)) (fractions g.den (back_of g)))

  no_gap : (t : Fraction) (ss : List Sample) (rows : List Row) (pk : Picking) → In pk (gaps_pickings a t ss rows []) → ⊥
  no_gap t [] rows pk i = i
  no_gap t (s ∷ ss) rows pk i = i

  rest_picked : (before : Place) (t : Fraction) (ss : List Sample) (rows : List Row) (gs : List GapRun) → IsOwnRest a k wf wanted before t ss rows gs → RestPicks before t ss rows gs →
      (pk : Picking) → In pk (gaps_pickings a t ss rows gs) → ArePicked pk
  rest_picked before t [] rows gs own picks pk i = absurd i
  rest_picked before t (s ∷ ss) rows [] own picks pk i = absurd i
  rest_picked before t (s ∷ ss) rows (g ∷ []) own picks pk i =
      elim (in_either pk (path_pickings a g.den g.start_loc (pos 0) (gap_start (width a) rows) g.start g.moves g.last)
      (gaps_pickings a s.time ss (gap_rows a g.start_loc (path_of g) (difference s.time t) s.cells rows) []) i) [
        | inl j ↦ first_picked before t s ss rows g [] own picks pk j
        | inr j ↦ absurd (no_gap s.time ss (gap_rows a g.start_loc (path_of g) (difference s.time t) s.cells rows) pk j)
      ]
  rest_picked before t (s ∷ ss) rows (g ∷ h ∷ gs) own picks pk i =
      elim (in_either pk (path_pickings a g.den g.start_loc (pos 0) (gap_start (width a) rows) g.start g.moves g.last)
      (gaps_pickings a s.time ss (gap_rows a g.start_loc (path_of g) (difference s.time t) s.cells rows) (h ∷ gs)) i) [
        | inl j ↦ first_picked before t s ss rows g (h ∷ gs) own picks pk j
        | inr j ↦ rest_picked (end_of a g) s.time ss (gap_rows a g.start_loc (path_of g) (difference s.time t) s.cells rows) (h ∷ gs)
            (next_own before t s ss rows g (h ∷ gs) own picks own.ends)
            (λ x hx. next_picks before t s ss rows g (h ∷ gs) own picks x hx
            (ap (at_place x) (numbers_parts g (h ∷ gs)) ∙ at_front (length (numbers_of (h ∷ gs))) x (numbers_of (h ∷ gs)) (fractions g.den (back_of g)) refl hx)) pk j
      ]

-- ---- the whole run

module _ (a : Automaton) (k : ℕ) (log : List Sample) (aim : Aim) (run : Run) (init : List Row) (wf : IsWellFormed a) (is : IsLog (width a) log) (aimed : IsAimedRun a k log aim run)
    (e : (location_at a run.start.loc).init ≡ Some init) where
  abbrev opening : List Row
  opening = rows_after (opening_stage a run.start.loc init)

  abbrev inside : List Row
  inside = (location_at a run.start.loc).invariant

  within : run.start.loc < length a.locations
  within = starts_within a run.start.loc init e

  both_wide : AllWide (width a) (init ++ inside)
  both_wide =
      let loc = location_is a wf run.start.loc within in wide_both (width a) init inside (subst (λ o. IfSome o (AllWide (width a))) e loc.init) loc.invariant

  rows_are : opening ≡ init ++ inside
  rows_are = opening_rows_are a run.start.loc init both_wide

  samples : AreSamples a log
  samples s i = (cells_are a log wf is s i, (all_in (IsSample (width a)) log is.each s i).time.positive)

  -- a run's start is inside its location's invariant
  start_inside : (place : Place) (t : Fraction) (ss : List Sample) (gs : List GapRun) → place.loc ≡ run.start.loc → pos 0 <ℤ place.point.den → Follows a k place t ss gs → EndsWhere aim.rows gs →
      AllHold inside place.point
  start_inside place t ss [] loc hd f ends = absurd ends
  start_inside place t [] (g ∷ gs) loc hd f ends = absurd f
  start_inside place t (s ∷ ss) (g ∷ gs) loc hd f ends =
      let c = f.0 in
      all_same inside (start_point g) place.point c.gap_run.positive hd c.same_point
      (subst (λ l. AllHold (location_at a l).invariant (start_point g)) (c.same_loc ∙ loc) (starts_inside a g.den g.start_loc g.start g.moves g.last c.gap_run.leads))

  rest_of_left : (i : ℕ) (v : Fraction) → IsLeft a k log aim run i v → RestTakes a k wf aim.rows run.start.loc zero_fraction log opening run.gaps i v
  rest_of_left i v (other, t) =
      let r = t.aimed.run_of in
      let loc : other.start.loc ≡ run.start.loc = ap (λ (h : History). h.start) t.same_history in
      let start : (location_at a other.start.loc).init ≡ Some init = ap (λ l. (location_at a l).init) loc ∙ e in
      let allowed : AllHold init other.start.point = subst (λ o. IsSomeAnd o (λ rows. AllHold rows other.start.point)) start r.starts.allowed in
      let inner = start_inside other.start zero_fraction log other.gaps loc r.starts.positive r.follows t.aimed.meets.ends in
      record {
        start = other.start.point;
        gaps = other.gaps;
        at = record { positive = r.starts.positive; sized = r.starts.sized };
        starts = subst (λ rows. AllHold rows other.start.point) (sym rows_are) ((holds_both init inside other.start.point).1 (allowed, inner));
        follows = subst (λ l. Follows a k (record { loc = l; point = other.start.point }) zero_fraction log other.gaps) loc r.follows;
        along = ap (λ (h : History). h.paths) t.same_history;
        ends = t.aimed.meets.ends;
        chosen = record { agree = λ j h. zip_at_take i j (picked other) (picked run) h t.same_numbers; value = t.value };
      }

  left_of_rest : (i : ℕ) (v : Fraction) → RestTakes a k wf aim.rows run.start.loc zero_fraction log opening run.gaps i v → IsLeft a k log aim run i v
  left_of_rest i v o =
      let other : Run = record { start = record { loc = run.start.loc; point = o.start }; gaps = o.gaps } in
      let begin = (holds_both init inside o.start).0 (subst (λ rows. AllHold rows o.start) rows_are o.starts) in
      let r : IsRun a k log other = record {
        starts = record { positive = o.at.positive; sized = o.at.sized; allowed = subst (λ x. IsSomeAnd x (λ rows. AllHold rows o.start)) (sym e) begin.0 };
        follows = o.follows;
      } in
      let along : history_of other ≡ history_of run = λ j. record { start = run.start.loc; paths = o.along j } in (
        other,
        record {
          aimed = record { run_of = r; meets = record { visits = λ x. visits_same a k log run other (sym along) aimed.run_of r (aimed.meets.visits x); ends = o.ends } };
          same_history = along;
          same_numbers = zip_take i (picked other) (picked run) (picked_numbers a (pos 1) (pos 1) other run (runs_alike a k log other run along r aimed.run_of)).long (λ j h lt. o.chosen.agree j h);
          value = o.chosen.value;
        },
      )

  own : IsOwnRest a k wf aim.rows run.start zero_fraction log opening run.gaps
  own = record {
    samples = samples;
    time = record { lt = tt };
    within = within;
    at = record { positive = aimed.run_of.starts.positive; sized = aimed.run_of.starts.sized };
    wide = subst (AllWide (width a)) (sym rows_are) both_wide;
    follows = aimed.run_of.follows;
    ends = aimed.meets.ends;
  }

  module _ (picks : (i : ℕ) → i < length (picked run) → IsPick (IsLeft a k log aim run i) (pick_at i run)) where
    last_long : length (last_values run.gaps) ≡ width a
    last_long =
        let (g, l) = last_of a k run.start zero_fraction log run.gaps (gaps_end aim.rows run.gaps aimed.meets.ends) aimed.run_of.follows in
        ap length l.values ∙ length-fractions g.den g.last.at_end ∙ l.sized

    last_picked : ArePicked (last_picking a log run init aim.rows)
    last_picked x h hx =
        let hw : x < width a = omega (arith, hx, last_long) in
        pick_of_equal (IsLeft a k log aim run x) (IsOpen (last_picking a log run init aim.rows) x) (at_place x (last_values run.gaps))
        (λ v hv o. (last_open a k log aim run init x v wf is aimed e hw).0 o, λ v hv o. (last_open a k log aim run init x v wf is aimed e hw).1 o)
        (subst (IsPick (IsLeft a k log aim run x)) (at_front (length (last_values run.gaps)) x (last_values run.gaps) (numbers_before run.gaps) refl hx)
        (picks x (omega (arith, hx, length-append (last_values run.gaps) (numbers_before run.gaps)))))

    all_picked : (p : Picking) → In p (pickings a log run init aim.rows) → ArePicked p
    all_picked p (inl i) = subst ArePicked (sym i) last_picked
    all_picked p (inr i) =
        rest_picked a k wf aim.rows run.start zero_fraction log opening run.gaps own
        (λ j hj. pick_of_equal (IsLeft a k log aim run j) (RestTakes a k wf aim.rows run.start.loc zero_fraction log opening run.gaps j) (at_place j (numbers_of run.gaps))
        (λ v hv o. rest_of_left j v o, λ v hv o. left_of_rest j v o) (picks j hj)) p i

pub first_run_picked : (a : Automaton) (k : ℕ) (log : List Sample) (aim : Aim) (run : Run) (init : List Row) (p : Picking) → IsWellFormed a → IsLog (width a) log →
    IsFirstRun a k log aim run → (location_at a run.start.loc).init ≡ Some init → In p (pickings a log run init aim.rows) → ArePicked p
first_run_picked a k log aim run init p wf is first e i = all_picked a k log aim run init wf is first.aimed e first.picks p i
