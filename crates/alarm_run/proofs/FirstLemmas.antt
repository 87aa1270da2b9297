-- Where the walk begins: in the first run's state, at its last values.
use Rattle.std.proofs.Common.{◌≡◌, inl, inr, ℕ, suc, ◌<◌, false, List, [], ◌∷◌, ◌++◌, append-nil, get_or, length, map, take, take_all, drop_of_length-le, refl, sym, ◌∙◌, ap, subst, arith}
use Rattle.std.specs.Prelude.{IsSomeAnd, IsTrue}
use Rattle.std.specs.List.{AllZip, AllByRecursion}
use Rattle.std.proofs.lemmas.Bool.{cases_lt}
use Rattle.std.proofs.lemmas.List.{length-map}
use Rattle.std.proofs.lemmas.List.Elements.{recursion_from_All, All-nil}
use Rattle.gap_runs.proofs.AgreePicks.{all_fractions, picks_agree, zip_from}
use Rattle.gap_runs.proofs.InsideLemmas.{same_common, inside_same}
use Rattle.gap_runs.proofs.LicencePicks.{leaving_pass}
use Rattle.gap_runs.specs.Befores.{common_point}
use Rattle.poly_specs.specs.Bits.{SomePasses}
use Rattle.poly_specs.specs.Elimination.{formed_each, columns_down}
use Rattle.poly_specs.specs.Fractions.{Fraction, IsFraction, SameFraction, fractions, difference, zero_fraction}
use Rattle.poly_specs.specs.Lists.{In}
use Rattle.poly_specs.specs.Pickings.{Picking, ArePicked, PickPasses}
use Rattle.poly_specs.specs.Rows.{Row, AllHold}
use Rattle.poly_specs.specs.Systems.{System}
use Rattle.replay_specs.specs.RunTexts.{IsWritableGap}
use Rattle.run_parts.proofs.Choices.{are_all}
use Rattle.run_parts.proofs.FirstGaps.{gaps_of_aimed}
use Rattle.run_parts.proofs.OpenParts.{picking_of}
use Rattle.run_parts.proofs.RunParts.{first_run_picked}
use Rattle.run_specs.proofs.AimLemmas.{IsLast, last_of}
use Rattle.run_specs.proofs.HistoryLogLemmas.{history_has_log}
use Rattle.run_specs.proofs.PassesLemmas.{same_in}
use Rattle.run_specs.proofs.PickedLemmas.{AllFractions, length-fractions}
use Rattle.run_specs.proofs.StateLemmas.{first_run_state, marked_meet}
use Rattle.run_specs.specs.Aims.{to_alarm}
use Rattle.run_specs.specs.Automaton.{Automaton, width}
use Rattle.run_specs.specs.FirstRun.{last_values}
use Rattle.run_specs.specs.Histories.{history_of}
use Rattle.run_specs.specs.HistoryLogs.{log_of}
use Rattle.run_specs.specs.Keys.{no_state}
use Rattle.run_specs.specs.Logs.{Sample}
use Rattle.run_specs.specs.Outcomes.{Item}
use Rattle.run_specs.specs.Passes.{PassesAlong, LogPasses, history_rows, history_stages}
use Rattle.run_specs.specs.PlainHistories.{AllReached}
use Rattle.run_specs.specs.RunPasses.{last_picking, pickings}
use Rattle.run_specs.specs.Runs.{GapRun, Run, path_of}
use Rattle.run_specs.specs.SessionHistories.{SessionHistory, IsHistory, states, has_passed}
use Rattle.run_specs.specs.Stages.{Stage, SomeReachedPasses, gap_rows, gap_stages, gap_start, gaps_rows, gaps_stages, path_rows, path_stages, rows_after, sample_stage}
use Rattle.run_specs.specs.StateHistories.{states_at, state_at, history_at, IsOfFirstState}
use Rattle.run_specs.specs.Runs.{end_loc}
use Rattle.sample_succ.proofs.PlainLemmas.{test_pass}
use Rattle.sample_succ.specs.Plain.{IsPlain}
use Rattle.alarm_run.proofs.GapLemmas.{passes_first, reached_more, reached_parts}
use Rattle.alarm_run.proofs.RunAt.{are_plain, init, is_log, log, long, opening, plain, plain_rows, plain_state, runs, start_is}
use Rattle.alarm_run.specs.Lasts.{ArePickedLast, LastPasses}
use Rattle.alarm_run.specs.Marks.{IsMarkedAt, IsFirstMarked}
use Rattle.alarm_run.specs.Walks.{WalkValue, IsAlarmed, AlarmedPasses, IsPlace, IsWalked, run_to}

-- ---- the test of the last stage

pub test_passes : (a : Automaton) (l : ℕ) (t : Fraction) (ss : List Sample) (paths : List (List ℕ)) (rows : List Row) → length paths ≡ length ss → 0 < length ss →
    AllReached (gaps_stages a l t ss paths rows) → SomePasses (formed_each (columns_down 0 (width a)) (gaps_rows a l t ss paths rows)) → SomeReachedPasses (gaps_stages a l t ss paths rows)
test_passes a l t [] paths rows e some reached p = absurd (omega (arith, some))
test_passes a l t (s ∷ ss) [] rows e some reached p = absurd (omega (arith, e))
test_passes a l t (s ∷ []) (path ∷ y ∷ paths) rows e some reached p = absurd (omega (arith, e))
test_passes a l t (s ∷ x ∷ ss) (path ∷ []) rows e some reached p = absurd (omega (arith, e))
test_passes a l t (s ∷ []) (path ∷ []) rows e some reached p =
    let d : Fraction = difference s.time t in
    let front : List Stage = path_stages a l path (gap_start (width a) rows) in
    let last : Stage = sample_stage a d s.cells (path_rows a l path (gap_start (width a) rows)) in
    let all = (reached_parts (front ++ last ∷ []) [] reached).0 in
    passes_first (front ++ last ∷ []) [] (reached_more front (last ∷ []) (reached_parts front (last ∷ []) all).0 (inl (test_pass last (rows_after last) (same_in (rows_after last)) p)))
test_passes a l t (s ∷ x ∷ ss) (path ∷ y ∷ paths) rows e some reached p =
    let d : Fraction = difference s.time t in
    let here : List Stage = gap_stages a l path d s.cells rows in
    let next : List Row = gap_rows a l path d s.cells rows in
    let rest : List Stage = gaps_stages a (end_loc a l path) s.time (x ∷ ss) (y ∷ paths) next in
    let parts = reached_parts here rest reached in
    reached_more here rest parts.0 (test_passes a (end_loc a l path) s.time (x ∷ ss) (y ∷ paths) next (omega (arith, e)) (omega arith) parts.1 p)

-- ---- the point that is picked

pub picked_inside : (s : System) (xs : List Fraction) → ArePickedLast s xs → AllHold s.rows (common_point xs)
picked_inside s xs p =
    let q = p.point in
    let all : AllByRecursion IsFraction xs = recursion_from_All IsFraction xs p.picked.fractions in
    inside_same s.rows q.den q.num xs p.picked.point.positive all
    (same_common q.den q.num xs p.picked.point.positive all (p.picked.point.sized ∙ sym p.picked.sized) (λ j h. p.picked.agrees j (omega (arith, h, p.picked.sized)))) p.picked.point.holds

-- ---- the first run's state

module _ (h : SessionHistory) (is : IsHistory h) (i : ℕ) (hi : i < length h.gaps) (passed : has_passed (take (suc i) h.gaps) ≡ false) (items : List Item)
    (left : states_at h (suc i) ≡ states items) (number : ℕ) (marked : IsFirstMarked items number) where
  below : number < length (states_at h (suc i))
  below = let b = marked.below in omega (arith, b, ap length left, length-map items (λ (x : Item). x.state))

  marked_at : (j : ℕ) → IsTrue (state_at h (suc i) j).seen_unsafe → IsMarkedAt items j
  marked_at j = subst (λ ss. IsTrue (get_or ss j no_state).seen_unsafe) left

  module _ (xs : List Fraction) (picked : ArePickedLast (record { width = width h.automaton; rows = (state_at h (suc i) number).rows }) xs) where
    abbrev begun : WalkValue
    begun = record { number = number; last = xs; gaps = [] }

    pub begin_place : IsPlace h (suc i) begun
    begin_place = record {
      below = below;
      sized = picked.picked.sized;
      fractions = picked.picked.fractions;
      inside = picked_inside (record { width = width h.automaton; rows = (state_at h (suc i) number).rows }) xs picked;
      writable = All-nil IsWritableGap;
    }

  module _ (run : Run) (first : IsAlarmed h (suc i) run) where
    abbrev a : Automaton
    a = h.automaton

    abbrev n : ℕ
    n = suc i

    -- the run is of the first state that is marked
    found : (j : ℕ) × IsOfFirstState h to_alarm n run j
    found = first_run_state h (log_of h) n to_alarm run (history_has_log h is) (omega arith) hi passed first

    same_number : found.0 ≡ number
    same_number = elim (cases_lt found.0 number) [
      | inl lt ↦ absurd (marked.first found.0 lt (marked_at found.0 (found.1.meets.marked refl)))
      | inr ge ↦ elim (cases_lt number found.0) [
        | inl lt ↦ absurd (found.1.first number lt ((marked_meet h (log_of h) n number (history_has_log h is) hi below).1 (subst (λ ss. IsTrue (get_or ss number no_state).seen_unsafe) (sym left) marked.marked)))
        | inr le ↦ omega (arith, ge, le)
      ]
    ]

    many : length run.gaps ≡ n
    many = (gaps_of_aimed a h.jumps (log h is n run hi first) to_alarm run first.aimed).0 ∙ long h is n run hi first

    whole : take n run.gaps ≡ run.gaps
    whole = take_all n run.gaps (omega (arith, many))

    along : history_at h n number ≡ history_of (run_to n run)
    along =
        subst (λ j. history_at h n j ≡ history_of run) same_number found.1.along ∙ ap (λ (gs : List GapRun). history_of (record run { gaps = gs })) (sym whole)

    last : (g : GapRun) × IsLast a g run.gaps
    last = last_of a h.jumps run.start zero_fraction (log h is n run hi first) run.gaps (λ f. omega (arith, ap length f, many)) (runs h is n run hi first).follows

    abbrev g : GapRun
    g = last.0

    -- its last values are picked from the plain rows
    abbrev pick : Picking
    pick = last_picking a (log h is n run hi first) run (init h is n run hi first) []

    pick_is : pick ≡ picking_of (plain h is n run hi first n (omega arith) number below along) 0 g.den g.last.at_end
    pick_is = λ j. record { rows = (append-nil (history_rows a (log h is n run hi first) run.start.loc (map path_of run.gaps) (init h is n run hi first)) ∙ sym rows_to) j; first = 0; numbers = last.1.values j }
      where
        rows_to : plain h is n run hi first n (omega arith) number below along ≡ history_rows a (log h is n run hi first) run.start.loc (map path_of run.gaps) (init h is n run hi first)
        rows_to =
            ap (λ (ss : List Sample). history_rows a ss run.start.loc (map path_of (take n run.gaps)) (init h is n run hi first)) (take_all n (log h is n run hi first) (omega (arith, long h is n run hi first)))
            ∙ ap (λ (gs : List GapRun). history_rows a (log h is n run hi first) run.start.loc (map path_of gs) (init h is n run hi first)) whole

    abbrev rows : List Row
    rows = plain h is n run hi first n (omega arith) number below along

    pick_picked : ArePicked (picking_of rows 0 g.den g.last.at_end)
    pick_picked = subst ArePicked pick_is (first_run_picked a h.jumps (log h is n run hi first) to_alarm run (init h is n run hi first) pick is.automaton (is_log h is n run hi first) first (start_is h is n run hi first) (inl refl))

    thin : IsPlain (width a) (state_at h n number).rows rows
    thin = (are_plain h is n run hi first n (omega arith) number below along).plain

    module _ (xs : List Fraction) (picked : ArePickedLast (record { width = width a; rows = (state_at h n number).rows }) xs) where
      zip : AllZip SameFraction (fractions g.den g.last.at_end) xs
      zip =
          let ys : List Fraction = fractions g.den g.last.at_end in
          let ly : length ys ≡ width a = length-fractions g.den g.last.at_end ∙ last.1.sized in
          let hx : AllFractions xs = all_fractions xs (recursion_from_All IsFraction xs picked.picked.fractions) in
          let agree = picks_agree (width a) 0 (state_at h n number).rows rows ys xs thin ly picked.picked.sized (are_all g.den g.last.at_end last.1.positive) hx (width a) (omega arith)
          (λ j lt. absurd (omega (arith, lt))) pick_picked picked.picked.picked in
          zip_from ys xs (ly ∙ sym picked.picked.sized) (λ j lt. agree j (omega (arith, lt, ly)))

      pub begin_walked : IsWalked h n run (begun xs picked)
      begin_walked = record {
        along = along;
        ends = λ some. subst (λ gs. AllZip SameFraction (last_values gs) xs) (sym whole) (subst (λ ys. AllZip SameFraction ys xs) (sym last.1.values) zip);
        later = drop_of_length-le run.gaps {i = n} (omega (arith, many));
      }

    formed_pass : SomePasses (formed_each (columns_down 0 (width a)) rows) → LogPasses a h.jumps (log h is n run hi first)
    formed_pass p =
        let state = plain_state h is n run hi first n (omega arith) number below along in
        let reached = (plain_rows h is n run hi first n (omega arith) number below along).reached in
        let ss : List Sample = take n (log h is n run hi first) in
        let paths : List (List ℕ) = map path_of (take n run.gaps) in
        let same : ss ≡ log h is n run hi first = take_all n (log h is n run hi first) (omega (arith, long h is n run hi first)) in
        let passes : PassesAlong a h.jumps ss run.start.loc paths = record {
          one_for_each_gap = state.one_for_each_gap;
          fit = state.fit;
          passes = subst (λ o. IsSomeAnd o (λ rows. SomeReachedPasses (history_stages a ss run.start.loc paths rows))) (sym (start_is h is n run hi first))
              (inr (reached.0, test_passes a run.start.loc zero_fraction ss paths (opening h is n run hi first) state.one_for_each_gap (omega (arith, ap length same, long h is n run hi first)) reached.1 p));
        } in
        subst (LogPasses a h.jumps) same (run.start.loc, paths, passes)

    pub begin_passes : LastPasses (record { width = width a; rows = (state_at h n number).rows }) → AlarmedPasses h n
    begin_passes p = elim (leaving_pass (width a) 0 (state_at h n number).rows rows g.den [] g.last.at_end [] last.1.positive thin refl last.1.sized tt tt pick_picked p) [
      | inl formed ↦ inl (formed_pass (subst (λ k. SomePasses (formed_each (columns_down 0 k) rows)) (omega arith) formed))
      | inr picking ↦ inr (
        run,
        first,
        inl (subst (λ o. IsSomeAnd o (λ rows. (q : Picking) × In q (pickings a (log h is n run hi first) run rows []) × PickPasses q)) (sym (start_is h is n run hi first))
            (pick, inl refl, subst PickPasses (sym pick_is) picking)),
      )
    ]
