-- A session stays one: when it begins a sample, is given an entry, finishes the sample, or takes it back.
use Rattle.std.proofs.Common.{◌≡◌, inl, inr, false, length, sym, subst, List, [], ◌∷◌, Some, None, refl}
use Rattle.run_specs.proofs.WorldLemmas.{steps_keep}
use Rattle.run_specs.specs.declared.Verdict.{Verdict}
use Rattle.poly_specs.specs.Lists.{In}
use Rattle.run_specs.specs.Logs.{Sample, IsSample}
use Rattle.run_specs.specs.SessionHistories.{Entry, IsEntry}
use Rattle.run_specs.specs.Sessions.{MonitorSession, IsMonitorSession, Idle, wanted}
use Rattle.run_specs.specs.Worlds.{World, IsWorld, Begin, LookHit, Finish, KeysDiffer, KeepsMemo, IsBegin, IsFinish}

-- a world of this session alone
abbrev alone : List Entry → MonitorSession → World
alone memo s = record { memo = memo; is_bounded = false; sessions = s ∷ [] }

alone_is : (memo : List Entry) (s : MonitorSession) → KeysDiffer memo → ((e : Entry) → In e memo → IsEntry e) → IsMonitorSession s → IsWorld (alone memo s)
alone_is memo s differ entries is = record { differ = differ; entries = entries; sessions = λ t i. elim i [ inl e ↦ subst IsMonitorSession (sym e) is | inr h ↦ absurd h ] }

memo_kept : (memo : List Entry) (s t : MonitorSession) → KeysDiffer memo → KeepsMemo (alone memo s) (alone memo t)
memo_kept memo s t differ = record { bound = refl; same = record { kept = λ x h. h; no_more = λ x h. h; differ = differ } }

pub begun_keeps : (s t : MonitorSession) (sample : Sample) → IsMonitorSession s → IsSample (length sample.cells) sample → IsBegin sample s t → IsMonitorSession t
begun_keeps s t sample is sized b =
    (steps_keep (alone [] s) (alone [] t) (Begin 0 sample) [] (alone_is [] s tt (λ e i. absurd i) is) sized
    (s, t, record { was = refl; becomes = refl }, b, memo_kept [] s t tt, refl)).sessions t (inl refl)

pub given_keeps : (s : MonitorSession) (e : Entry) → IsMonitorSession s → IsEntry e → wanted s ≡ Some e.key → IsMonitorSession (record s { given = Some e })
given_keeps s e is entry wants =
    let t : MonitorSession = record s { given = Some e } in
    let differ : KeysDiffer (e ∷ []) = (λ h. h.1, tt) in
    (steps_keep (alone (e ∷ []) s) (alone (e ∷ []) t) (LookHit 0) [] (alone_is (e ∷ []) s differ (λ x i. elim i [ inl f ↦ subst IsEntry (sym f) entry | inr h ↦ absurd h ]) is) tt
    (s, t, e, record { was = refl; becomes = refl }, record { wants = wants; found = inl refl; after = refl }, memo_kept (e ∷ []) s t differ, refl)).sessions t (inl refl)

pub finished_keeps : (s t : MonitorSession) (sample : Sample) (v : Verdict) → IsMonitorSession s → IsFinish sample v s t → IsMonitorSession t
finished_keeps s t sample v is f =
    (steps_keep (alone [] s) (alone [] t) (Finish 0) (record { session = 0; verdict = v } ∷ []) (alone_is [] s tt (λ e i. absurd i) is) tt
    (s, t, sample, v, record { was = refl; becomes = refl }, f, memo_kept [] s t tt, refl)).sessions t (inl refl)

pub idle_keeps : (s : MonitorSession) → IsMonitorSession s → IsMonitorSession (record s { phase = Idle; given = None })
idle_keeps s is = record {
  columns = is.columns;
  log = is.log;
  room = is.room;
  history = is.history;
  entries = is.entries;
  told = is.told;
  phase = tt;
}
