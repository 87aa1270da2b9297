-- A first run at one of its gaps: the state there, and its plain rows.
use Rattle.std.proofs.Common.{◌≡◌, ℕ, ◌<◌, ◌≤◌, IfSome, List, ◌++◌, length, map, take, take-take, Option, Some, None, refl, sym, subst, arith}
use Rattle.std.specs.Prelude.{IsSomeAnd}
use Rattle.std.proofs.lemmas.List.{length-take-le}
use Rattle.poly_specs.specs.Fractions.{zero_fraction}
use Rattle.poly_specs.specs.Rows.{Row, AllHold, AllWide}
use Rattle.run_parts.proofs.RestParts.{AreSamples}
use Rattle.run_specs.proofs.EndLemmas.{wide_both}
use Rattle.run_specs.proofs.FirstRunExists.{all_in, cells_are}
use Rattle.run_specs.proofs.HistoryLogLemmas.{history_has_log, log_length, first_gaps, log-first, history-first}
use Rattle.run_specs.proofs.OverflowLemmas.{opening_rows_are, starts_within}
use Rattle.run_specs.proofs.PlainStates.{states_plain}
use Rattle.run_specs.proofs.RunEndLemmas.{IsAt, all_same, starts_inside}
use Rattle.run_specs.proofs.StageLemmas.{holds_both}
use Rattle.run_specs.proofs.StateLemmas.{states_marks}
use Rattle.run_specs.proofs.StageWidths.{location_is}
use Rattle.run_specs.specs.Automaton.{Automaton, width, location_at}
use Rattle.run_specs.specs.Histories.{history_of}
use Rattle.run_specs.specs.HistoryLogs.{log_of}
use Rattle.run_specs.specs.Logs.{Sample, IsSample, IsLog}
use Rattle.run_specs.specs.PlainHistories.{HasPlainRows, IsPlainState}
use Rattle.run_specs.specs.Runs.{GapRun, Run, IsRun, path_of, start_point}
use Rattle.run_specs.specs.SessionHistories.{SessionHistory, IsHistory}
use Rattle.run_specs.specs.Stages.{rows_after, opening_stage}
use Rattle.run_specs.specs.StateHistories.{states_at, state_at, history_at, run_end}
use Rattle.gap_runs.specs.Gaps.{ArePlain}
use Rattle.alarm_run.proofs.GapLemmas.{IsGapAt, follows_to, gap_at, holds_before, place_positive, rows_before, rows_wide}
use Rattle.alarm_run.specs.Walks.{IsAlarmed, run_to}

some_of : (o : Option (List Row)) (P : List Row → Type 0) → IsSomeAnd o P → (x : List Row) × (o ≡ Some x)
some_of None P h = absurd h
some_of (Some x) P h = (x, refl)

module _ (h : SessionHistory) (is : IsHistory h) (n : ℕ) (run : Run) (few : n ≤ length h.gaps) (first : IsAlarmed h n run) where
  abbrev pub a : Automaton
  a = h.automaton

  abbrev pub log : List Sample
  log = take n (log_of h)

  pub runs : IsRun a h.jumps log run
  runs = first.aimed.run_of

  pub long : length log ≡ n
  long = length-take-le n (log_of h) (omega (arith, few, log_length h))

  pub is_log : IsLog (width a) log
  is_log = subst (IsLog (width a)) (log-first h n) (history_has_log (first_gaps n h) (history-first h n is)).is_log

  -- ---- where it starts

  pub starts : (init : List Row) × ((location_at a run.start.loc).init ≡ Some init)
  starts = some_of (location_at a run.start.loc).init (λ init. AllHold init run.start.point) runs.starts.allowed

  abbrev pub init : List Row
  init = starts.0

  pub start_is : (location_at a run.start.loc).init ≡ Some init
  start_is = starts.1

  abbrev pub opening : List Row
  opening = rows_after (opening_stage a run.start.loc init)

  pub within : run.start.loc < length a.locations
  within = starts_within a run.start.loc init start_is

  abbrev inside : List Row
  inside = (location_at a run.start.loc).invariant

  both_wide : AllWide (width a) (init ++ inside)
  both_wide =
      let loc = location_is a is.automaton run.start.loc within in wide_both (width a) init inside (subst (λ o. IfSome o (AllWide (width a))) start_is loc.init) loc.invariant

  rows_are : opening ≡ init ++ inside
  rows_are = opening_rows_are a run.start.loc init both_wide

  opening_wide : AllWide (width a) opening
  opening_wide = subst (AllWide (width a)) (sym rows_are) both_wide

  start_at : IsAt a run.start.point
  start_at = record { positive = runs.starts.positive; sized = runs.starts.sized }

  opening_holds : 0 < n → AllHold opening run.start.point
  opening_holds hn =
      let (s, g, at) = gap_at a h.jumps run.start zero_fraction log run.gaps 0 runs.follows (omega (arith, hn, long)) in
      let c = at.continues in
      let allowed : AllHold init run.start.point = subst (λ o. IsSomeAnd o (λ rows. AllHold rows run.start.point)) start_is runs.starts.allowed in
      let here : AllHold inside (start_point g) =
      subst (λ l. AllHold (location_at a l).invariant (start_point g)) c.same_loc (starts_inside a g.den g.start_loc g.start g.moves g.last c.gap_run.leads) in
      let there : AllHold inside run.start.point = all_same inside (start_point g) run.start.point c.gap_run.positive runs.starts.positive c.same_point here in
      subst (λ rows. AllHold rows run.start.point) (sym rows_are) ((holds_both init inside run.start.point).1 (allowed, there))

  samples : AreSamples a log
  samples s j = (cells_are a log is.automaton is_log s j, (all_in (IsSample (width a)) log is_log.each s j).time.positive)

  -- ---- up to one of its gaps

  module _ (i : ℕ) (hi : i ≤ n) where
    pub taken : take i log ≡ take i (log_of h)
    taken = take-take i n (log_of h) hi

    pub run_before : IsRun a h.jumps (take i log) (run_to i run)
    run_before = record { starts = runs.starts; follows = follows_to a h.jumps run.start zero_fraction log run.gaps i runs.follows }

    -- a state of the history of the run to here
    module _ (j : ℕ) (below : j < length (states_at h i)) (along : history_at h i j ≡ history_of (run_to i run)) where
      pub plain_state : IsPlainState a h.jumps (take i log) (history_of (run_to i run)) (state_at h i j)
      plain_state =
          subst (λ y. IsPlainState a h.jumps (take i log) y (state_at h i j)) along
          (subst (λ l. IsPlainState a h.jumps l (history_at h i j) (state_at h i j)) (sym taken) (states_plain h (log_of h) i j (history_has_log h is) (omega (arith, hi, few)) below))

      pub plain_rows : HasPlainRows a (take i log) (history_of (run_to i run)) (state_at h i j) init
      plain_rows = subst (λ o. IsSomeAnd o (λ rows. HasPlainRows a (take i log) (history_of (run_to i run)) (state_at h i j) rows)) start_is plain_state.starts

      abbrev pub plain : List Row
      plain = rows_before a run.start zero_fraction log run.gaps i opening

      pub are_plain : ArePlain (width a) (state_at h i j).rows plain
      are_plain = record {
        plain = record { among = plain_rows.plain; same = plain_rows.same };
        wide = rows_wide a h.jumps run.start.loc zero_fraction (take i log) (map path_of (take i run.gaps)) opening is.automaton within plain_state.fit opening_wide;
      }

      -- it is in the state's location
      pub same_loc : (run_end a (run_to i run)).loc ≡ (state_at h i j).loc
      same_loc =
          (states_marks h (log_of h) i j (run_end a (run_to i run)).point (run_to i run) (history_has_log h is) (omega (arith, hi, few)) below
          (record { run_of = subst (λ l. IsRun a h.jumps l (run_to i run)) taken run_before; along = sym along; ends = refl })).loc

      -- the next gap starts in the plain rows
      pub gap_starts : (s : Sample) (g : GapRun) → i < n → IsGapAt a h.jumps run.start zero_fraction log run.gaps i s g → AllHold plain (start_point g)
      gap_starts s g lt at =
          holds_before a h.jumps run.start zero_fraction log run.gaps i s g opening is.automaton samples within start_at opening_wide runs.follows (opening_holds (omega (arith, lt))) at
          (place_positive a h.jumps run.start zero_fraction (take i log) (take i run.gaps) runs.starts.positive (follows_to a h.jumps run.start zero_fraction log run.gaps i runs.follows))
