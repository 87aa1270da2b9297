-- The first run of an open session, from its history.
use Rattle.std.proofs.Common.{◌≡◌, ℕ, zero, suc, ◌-◌, ◌<◌, List, [], ◌∷◌, length, take, true, Option, Some, None, sym, ap, ◌∙◌, subst, arith, bytes_eq}
use Rattle.std.specs.Prelude.{IfSome}
use Rattle.std.specs.Map.{lookup}
use Rattle.std.proofs.lemmas.List.{take_all}
use Rattle.run_specs.specs.Aims.{to_alarm}
use Rattle.run_specs.specs.FirstRun.{IsFirstRun}
use Rattle.run_specs.specs.HistoryLogs.{log_of}
use Rattle.run_specs.specs.Keys.{State}
use Rattle.run_specs.specs.Logs.{Sample}
use Rattle.run_specs.specs.Outcomes.{Outcome, Next, Passed}
use Rattle.run_specs.specs.RunPasses.{RunPasses}
use Rattle.run_specs.specs.Runs.{GapRun}
use Rattle.run_specs.specs.SessionHistories.{Entry, SessionHistory, states, verdict_after, verdict_at}
use Rattle.run_specs.specs.Sessions.{MonitorSession, IsMonitorSession}
use Rattle.run_specs.specs.declared.Verdict.{Verdict}
use Rattle.run_specs.specs.declared.Verdict.TheVariants.{Alarm, Overflow}
use Rattle.run_specs.proofs.HistoryLogLemmas.{log_is_this, log_length}
use Rattle.run_parts.proofs.FirstGaps.{gaps_of_aimed}
use Rattle.alarm_run.specs.Alarms.{log_to, IsAlarmRun, AlarmRunPasses}
use Rattle.log_specs.specs.Blocks.{last_of}
use Rattle.log_specs.specs.LogSessions.{session_of}
use Rattle.log_table.specs.FirstRuns.{EndsInAlarm, IsSessionRun, SessionRunPasses, IsFirstRunOf, FirstRunOfPasses}
use Rattle.log_table.specs.Parts.{Opened, log_session_of, table_of, IsOpen, IsKept}
use Rattle.log_table.specs.Tables.{Table, state_with}
use Rattle.log_table.proofs.EntryLemmas.{found, last_found, last_missing, has_one}

-- ---- an alarm is told by an entry

alarm_after : (belief : List State) (es : List Entry) (i : ℕ) → verdict_after belief es i ≡ Some Alarm → i < length es
alarm_after [] [] i e = absurd (let f : ⊥ = cc in f)
alarm_after (b ∷ bs) [] i e = absurd (let f : ⊥ = cc in f)
alarm_after belief (x ∷ es) zero e = omega arith
alarm_after [] (x ∷ es) (suc i) e = next (λ b f. alarm_after b es i f) x.outcome e
  where
    next : ((b : List State) → verdict_after b es i ≡ Some Alarm → i < length es) →
        (o : Outcome) → elim o as (λ _. Option Verdict) [ Next items ↦ verdict_after (states items) es i | Passed ↦ Some Overflow ] ≡ Some Alarm → suc i < length (x ∷ es)
    next later (Next items) f = let h = later (states items) f in omega (arith, h)
    next later Passed f = absurd (let g : ⊥ = cc in g)
alarm_after (c ∷ cs) (x ∷ es) (suc i) e = next (λ b f. alarm_after b es i f) x.outcome e
  where
    next : ((b : List State) → verdict_after b es i ≡ Some Alarm → i < length es) →
        (o : Outcome) → elim o as (λ _. Option Verdict) [ Next items ↦ verdict_after (states items) es i | Passed ↦ Some Overflow ] ≡ Some Alarm → suc i < length (x ∷ es)
    next later (Next items) f = let h = later (states items) f in omega (arith, h)
    next later Passed f = absurd (let g : ⊥ = cc in g)

alarm_at : (h : SessionHistory) (i : ℕ) → verdict_at h i ≡ Some Alarm → i < length h.gaps
alarm_at h i e = go h.opening e
  where
    go : (o : Option (List State)) → elim o as (λ _. Option Verdict) [ None ↦ Some Overflow | Some belief ↦ verdict_after belief h.gaps i ] ≡ Some Alarm → i < length h.gaps
    go None f = absurd (let g : ⊥ = cc in g)
    go (Some belief) f = alarm_after belief h.gaps i f

-- ---- the log of the history is the session's

module _ (s : MonitorSession) (is : IsMonitorSession s) (i : ℕ) (last : suc i ≡ length s.log) (alarm : verdict_at s.history i ≡ Some Alarm) where
  pub same_log : log_to s.history i ≡ s.log
  same_log =
      let begins : take (length s.history.gaps) s.log ≡ log_of s.history = log_is_this s.history s.log is.log is.entries in
      let within = alarm_at s.history i alarm in
      let many = log_length s.history in
      let taken = take_all (length s.history.gaps) s.log (omega (arith, within, last)) in
      ap (take (suc i)) (sym begins ∙ taken) ∙ take_all (suc i) s.log (omega (arith, last))

  pub session_run : (gaps : List GapRun) → IsAlarmRun s.history i gaps → IsSessionRun s gaps
  session_run gaps h =
      let first : IsFirstRun s.history.automaton s.history.jumps s.log to_alarm h.run = subst (λ ss. IsFirstRun s.history.automaton s.history.jumps ss to_alarm h.run) same_log h.first in
      let many = gaps_of_aimed s.history.automaton s.history.jumps s.log to_alarm h.run first.aimed in
      let count : length gaps ≡ length s.log = sym (ap length h.same) ∙ many.0 in
      let room = is.room in
      record {
        run = h.run;
        first = first;
        same = h.same;
        writable = record { some = omega (arith, count, last); few = omega (arith, count, room); each = h.writable };
      }

  pub session_passes : AlarmRunPasses s.history i → SessionRunPasses s
  session_passes h = subst (λ ss. RunPasses s.history.automaton s.history.jumps ss to_alarm) same_log h

-- the history and the log as they were read
module _ (s : MonitorSession) (is : IsMonitorSession s) (h : SessionHistory) (log : List Sample) (history_is : h ≡ s.history) (log_is : log ≡ s.log) (ends : EndsInAlarm s) where
  abbrev place : ℕ
  place = length log - 1

  place_is : ends.0 ≡ place
  place_is = let n = ap length log_is in let last = ends.1 in omega (arith, n, last)

  is_last : suc place ≡ length s.log
  is_last = ap suc (sym place_is) ∙ ends.1

  is_alarm : verdict_at s.history place ≡ Some Alarm
  is_alarm = subst (λ j. verdict_at s.history j ≡ Some Alarm) place_is ends.2

  pub alarm_read : verdict_at h place ≡ Some Alarm
  alarm_read = subst (λ g. verdict_at g place ≡ Some Alarm) (sym history_is) is_alarm

  pub run_read : (gaps : List GapRun) → IsAlarmRun h place gaps → IsSessionRun s gaps
  run_read gaps r = session_run s is place is_last is_alarm gaps (subst (λ g. IsAlarmRun g place gaps) history_is r)

  pub passes_read : AlarmRunPasses h place → SessionRunPasses s
  passes_read p = session_passes s is place is_last is_alarm (subst (λ g. AlarmRunPasses g place) history_is p)

-- ---- in the table

module _ (k n : ℕ) (es : List (List ℕ × Opened)) (t : Table) (view : table_of k es n ≡ t) (kept : IsKept k es n) (name key : List ℕ) (is : key ≡ name) where
  pub last_none : lookup (bytes_eq key) es ≡ None → last_of t.replied name ≡ None
  last_none none =
      sym (ap (λ (u : Table). last_of u.replied name) view) ∙ last_missing name es (subst (λ (q : List ℕ). lookup (bytes_eq q) es ≡ None) is none)

  module _ (o : Opened) (there : lookup (bytes_eq key) es ≡ Some o) where
    there_by_name : lookup (bytes_eq name) es ≡ Some o
    there_by_name = subst (λ (q : List ℕ). lookup (bytes_eq q) es ≡ Some o) is there

    is_open : IsOpen k n o
    is_open = has_one key (IsOpen k n) es o there kept.opened

    open_session : session_of (state_with true t) name ≡ Some (log_session_of name o.session)
    open_session = subst (λ (u : Table). session_of (state_with true u) name ≡ Some (log_session_of name o.session)) view (found name es o there_by_name)

    same_jumps : o.session.history.jumps ≡ t.jumps
    same_jumps = is_open.jumps ∙ ap (λ (u : Table). u.jumps) view

    pub last_told : last_of t.replied name ≡ o.last
    last_told = sym (ap (λ (u : Table). last_of u.replied name) view) ∙ last_found name es o there_by_name

    pub alarm_told : last_of t.replied name ≡ Some Alarm → EndsInAlarm o.session
    alarm_told e =
        subst (λ l. IfSome l (λ u. (i : ℕ) × (suc i ≡ length o.session.log) × (verdict_at o.session.history i ≡ Some u))) (sym last_told ∙ e) is_open.told

    pub run_told : (gaps : List GapRun) → IsSessionRun o.session gaps → IsFirstRunOf t name gaps
    run_told gaps h = record {
      session = log_session_of name o.session;
      open_one = open_session;
      run = h.run;
      first = subst (λ j. IsFirstRun o.session.history.automaton j o.session.log to_alarm h.run) same_jumps h.first;
      same = h.same;
      writable = h.writable;
    }

    pub passes_told : SessionRunPasses o.session → FirstRunOfPasses t name
    passes_told h = record {
      session = log_session_of name o.session;
      open_one = open_session;
      passes = subst (λ j. RunPasses o.session.history.automaton j o.session.log to_alarm) same_jumps h;
    }
