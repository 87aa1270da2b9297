-- The beginning of the walk, as the code has it: from the entry behind an alarm.
use Rattle.std.proofs.Common.{◌≡◌, ℕ, suc, ◌+◌, ◌<◌, true, List, [], ◌∷◌, append-nil, get_or, length, take, Some, sym, ◌∙◌, ap, subst, arith}
use Rattle.std.specs.Prelude.{All, reverse, slice_get, IsTrue}
use Rattle.std.proofs.lemmas.List.{get_or-map, length-map, reverse-append}
use Rattle.std.proofs.lemmas.List.Elements.{All-append, All-cons, All-get_or, All-head, All-nil, All-tail}
use Rattle.gap_keys.specs.Answering.{outcome_of}
use Rattle.gap_keys.specs.Views.{ItemView, AreItemsWide, items_of, state_view, system_of}
use Rattle.gap_keys.specs.declared.outcomes.Outcome as code
use Rattle.live_session.specs.Entries.{entry_of}
use Rattle.poly_specs.specs.Fractions.{Fraction}
use Rattle.poly_specs.specs.Rows.{HasPoint}
use Rattle.poly_specs.specs.Systems.{System}
use Rattle.replay_specs.specs.RunTexts.{IsWritableGap}
use Rattle.run_specs.proofs.AimLemmas.{alarm_visit}
use Rattle.run_specs.proofs.FirstRunExists.{some_first_run}
use Rattle.run_specs.proofs.HistoryLogLemmas.{history_has_log, log_length, first_gaps, log-first, history-first}
use Rattle.run_specs.proofs.ReplyLemmas.{history_all_lawful}
use Rattle.run_specs.proofs.StateLemmas.{marked_meet}
use Rattle.run_specs.specs.Aims.{to_alarm}
use Rattle.run_specs.specs.Automaton.{Automaton, width}
use Rattle.run_specs.specs.Logs.{IsLog}
use Rattle.run_specs.specs.HistoryLogs.{log_of}
use Rattle.run_specs.specs.Keys.{Key, no_state}
use Rattle.run_specs.specs.Outcomes.{Item, Next}
use Rattle.run_specs.specs.Runs.{GapRun, Run}
use Rattle.run_specs.specs.SessionHistories.{Entry, SessionHistory, IsHistory, states, opening_states, some_marked, verdict_at}
use Rattle.run_specs.specs.StateHistories.{states_at, state_at}
use Rattle.run_specs.specs.declared.Verdict.TheVariants.{Alarm}
use Rattle.alarm_run.proofs.EntryLemmas.{leaving}
use Rattle.alarm_run.proofs.FirstLemmas.{begin_place, begin_walked, begin_passes}
use Rattle.alarm_run.proofs.MarkLemmas.{IsAlarmEntry, alarm_entry}
use Rattle.alarm_run.proofs.StepLemmas.{some_is, next_is}
use Rattle.alarm_run.specs.Alarms.{IsAlarmRun, AlarmRunPasses}
use Rattle.alarm_run.specs.Lasts.{ArePickedLast, LastPasses}
use Rattle.alarm_run.specs.Marks.{IsFirstMarked}
use Rattle.alarm_run.specs.Walks.{WalkValue, IsAlarmed, AlarmedPasses, IsPlace, IsWalkedBack}

module _ (h : SessionHistory) (i : ℕ) (alarm : verdict_at h i ≡ Some Alarm) where
  behind : (entry : Entry) × (items : List Item) × IsAlarmEntry (opening_states h) h.gaps i entry items
  behind = alarm_entry h i alarm

  pub known : i < length h.gaps
  known = behind.2.below

  plus : suc i ≡ i + 1
  plus = omega arith

  module _ (held : Key × code.Outcome) (at : slice_get h.gaps i ≡ Some (entry_of held)) where
    entry_is : behind.0 ≡ entry_of held
    entry_is = some_is behind.0 (entry_of held) (sym behind.2.at ∙ at)

    pub some_items : (items : List Item) × (outcome_of held.1 ≡ Next items)
    some_items = (behind.1, sym (ap (λ (e : Entry). e.outcome) entry_is) ∙ behind.2.outcome)

    module _ (xs : List ItemView) (outcome : outcome_of held.1 ≡ Next (items_of xs)) where
      items_are : behind.1 ≡ items_of xs
      items_are = next_is behind.1 (items_of xs) (sym behind.2.outcome ∙ ap (λ (e : Entry). e.outcome) entry_is ∙ outcome)

      pub some_marked_is : some_marked (items_of xs) ≡ true
      some_marked_is = subst (λ ys. some_marked ys ≡ true) items_are behind.2.marked

      left : states_at h (suc i) ≡ states (items_of xs)
      left = behind.2.left ∙ ap (λ ys. states ys) items_are

      module _ (number : ℕ) (first : IsFirstMarked (items_of xs) number) where
        pub number_in : number < length xs
        number_in = let b = first.below in omega (arith, b, length-map xs (λ (x : ItemView). x.item))

        below : number < length (states_at h (suc i))
        below = omega (arith, number_in, ap length left, length-map (items_of xs) (λ (x : Item). x.state), length-map xs (λ (x : ItemView). x.item))

        module _ (is : IsHistory h) (wide : AreItemsWide (width held.0.automaton) xs) (v : ItemView) (index : v ≡ get_or xs number v) (s : System) (of : s ≡ system_of (state_view v)) where
          automaton_is : held.0.automaton ≡ h.automaton
          automaton_is =
              let (gap, seen, items, e) = leaving h i is known (omega (arith, below)) in
              ap (λ (x : Entry). x.key.automaton) (some_is (entry_of held) _ (sym at ∙ e.at))

          state_is : v.item.state ≡ state_at h (suc i) number
          state_is =
              sym (ap (λ ss. get_or ss number no_state) left
              ∙ get_or-map (λ (x : Item). x.state) (items_of xs) number v.item no_state first.below
              ∙ ap (λ (x : Item). x.state) (get_or-map (λ (x : ItemView). x.item) xs number v v.item number_in ∙ ap (λ (x : ItemView). x.item) (sym index)))

          width_is : v.width ≡ width h.automaton
          width_is = ap (λ (x : ItemView). x.width) index ∙ All-get_or (λ (x : ItemView). x.width ≡ width held.0.automaton) xs number v number_in wide ∙ ap (λ (a : Automaton). width a) automaton_is

          abbrev told : System
          told = record { width = width h.automaton; rows = (state_at h (suc i) number).rows }

          system_is : s ≡ told
          system_is = of ∙ (λ j. record { width = width_is j; rows = (state_is j).rows })

          pub has_point : HasPoint s.width s.rows
          has_point =
              let marked : IsTrue (state_at h (suc i) number).seen_unsafe = subst (λ ss. IsTrue (get_or ss number no_state).seen_unsafe) (sym left) first.marked in
              let can = (marked_meet h (log_of h) (suc i) number (history_has_log h is) known below).1 marked in
              subst (λ (t : System). HasPoint t.width t.rows) (sym system_is) (subst (HasPoint (width h.automaton)) (append-nil (state_at h (suc i) number).rows) can.some_point)

          module _ (last : List Fraction) (picked : ArePickedLast s last) (gaps : List GapRun) (none : gaps ≡ []) where
            mine : ArePickedLast told last
            mine = subst (λ t. ArePickedLast t last) system_is picked

            abbrev start : WalkValue
            start = record { number = number; last = last; gaps = gaps }

            start_is : record { number = number; last = last; gaps = [] } ≡ start
            start_is = λ j. record { number = number; last = last; gaps = sym none j }

            pub code_place : IsPlace h (i + 1) start
            code_place = subst (λ n. IsPlace h n start) plus (subst (IsPlace h (suc i)) start_is (begin_place h is i known behind.2.not_passed (items_of xs) left number first last mine))

            pub code_walked : IsWalkedBack h (i + 1) (i + 1) start
            code_walked =
                subst (λ n. IsWalkedBack h n n start) plus
                (subst (IsWalkedBack h (suc i) (suc i)) start_is (λ run f. begin_walked h is i known behind.2.not_passed (items_of xs) left number first run f last mine))

          pub code_passes : LastPasses s → (run : Run) → IsAlarmed h (i + 1) run → AlarmedPasses h (i + 1)
          code_passes p =
              subst (λ n. (run : Run) → IsAlarmed h n run → AlarmedPasses h n) plus
              (λ run f. begin_passes h is i known behind.2.not_passed (items_of xs) left number first run f (subst LastPasses system_is p))

-- ---- the run

all_reversed : {A : Type 0} (P : A → Type 0) (xs : List A) → All P xs → All P (reverse xs)
all_reversed P [] all = all
all_reversed P (x ∷ xs) all =
    subst (All P) (sym (reverse-append (x ∷ []) xs)) (All-append P (reverse xs) (x ∷ []) (all_reversed P xs (All-tail P x xs all)) (All-cons P x [] (All-head P x xs all) (All-nil P)))

-- some first run visits an unsafe location
pub some_alarmed : (h : SessionHistory) (i : ℕ) → IsHistory h → verdict_at h i ≡ Some Alarm → (run : Run) × IsAlarmed h (suc i) run
some_alarmed h i is alarm =
    let a : Automaton = h.automaton in
    let hi = known h i alarm in
    let log = take (suc i) (log_of h) in
    let is_log : IsLog (width a) log = subst (IsLog (width a)) (log-first h (suc i)) (history_has_log (first_gaps (suc i) h) (history-first h (suc i) is)).is_log in
    let (run, runs, visits) = history_all_lawful h (log_of h) i Alarm (history_has_log h is) (let n = log_length h in omega (arith, n, hi)) alarm in
    some_first_run a h.jumps log to_alarm run is.automaton is_log (record { run_of = runs; meets = (alarm_visit a run).1 visits })

pub whole_run : (h : SessionHistory) (i : ℕ) (w : WalkValue) (gaps : List GapRun) → IsHistory h → verdict_at h i ≡ Some Alarm → IsPlace h 0 w → IsWalkedBack h (i + 1) 0 w → gaps ≡ reverse w.gaps →
    IsAlarmRun h i gaps
whole_run h i w gaps is alarm place walked e =
    let (run, first) = some_alarmed h i is alarm in
    record {
      run = run;
      first = first;
      same = (walked run (subst (λ n. IsAlarmed h n run) (plus h i alarm) first)).later ∙ sym e;
      writable = subst (λ gs. All IsWritableGap gs) (sym e) (all_reversed IsWritableGap w.gaps place.writable);
    }

pub whole_passes : (h : SessionHistory) (i : ℕ) → IsHistory h → verdict_at h i ≡ Some Alarm → ((run : Run) → IsAlarmed h (i + 1) run → AlarmedPasses h (i + 1)) → AlarmRunPasses h i
whole_passes h i is alarm passes =
    let (run, first) = some_alarmed h i is alarm in
    let e = plus h i alarm in
    subst (AlarmedPasses h) (sym e) (passes run (subst (λ n. IsAlarmed h n run) e first))
