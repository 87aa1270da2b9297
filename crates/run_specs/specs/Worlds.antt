-- A world of sessions that share a memo, and its steps.
use Rattle.std.specs.Prelude.{◌≡◌, ◌⊎◌, ℕ, Bool, true, false, List, [], ◌∷◌, ◌++◌, length, Option, Some, None, slice_get, slice_set, if◌then◌else◌, ◌==◌, ⊤}
use Rattle.poly_specs.specs.Lists.{In, IsAmong}
use Rattle.run_specs.specs.declared.Verdict.{Verdict}
use Rattle.run_specs.specs.Logs.{Sample, IsSample}
use Rattle.run_specs.specs.Keys.{Key}
use Rattle.run_specs.specs.SessionHistories.{Entry, IsEntry, SessionHistory, verdict_at}
use Rattle.run_specs.specs.Sessions.{MonitorSession, IsMonitorSession, Idle, Begun, Missed, Filled, MayBegin, accepted, key_for, wanted}

-- the entries of the memo, in any order; whether the memo has a bound, so that it may drop entries; and the sessions
pub record World : Type 0 where
  pub memo : List Entry
  pub is_bounded : Bool
  pub sessions : List MonitorSession

-- one atomic step of the session of this number
pub data Event : Type 0 where
  Begin : (session : ℕ) (sample : Sample) → Event
  LookHit : (session : ℕ) → Event
  LookMiss : (session : ℕ) → Event
  Fill : (session : ℕ) → Event
  Put : (session : ℕ) → Event
  Finish : (session : ℕ) → Event

-- the verdict that a step tells for a sample of the session of this number
pub record Told : Type 0 where
  pub session : ℕ
  pub verdict : Verdict

-- the memo has an entry for the key
abbrev pub HasKey : Key → List Entry → Type 0
HasKey key memo = (e : Entry) × In e memo × (e.key ≡ key)

-- the keys of the entries are distinct
abbrev pub KeysDiffer : List Entry → Type 0
KeysDiffer [] = ⊤
KeysDiffer (e ∷ es) = (HasKey e.key es → ⊥) × KeysDiffer es

-- the same entries, in any order, and none of them twice
pub record SameEntries (before after : List Entry) : Type 0 where
  pub kept : IsAmong before after
  pub no_more : IsAmong after before
  pub differ : KeysDiffer after

-- the entry is there afterwards, and of the others some or all; none of them twice
pub record KeepsSome (before : List Entry) (e : Entry) (after : List Entry) : Type 0 where
  pub added : In e after
  pub no_more : IsAmong after (e ∷ before)
  pub differ : KeysDiffer after

-- the entry is added; a memo without a bound keeps all others, and one with a bound may drop some
abbrev pub IsAdded : Bool → List Entry → Entry → List Entry → Type 0
IsAdded false before e after = SameEntries (e ∷ before) after
IsAdded true before e after = KeepsSome before e after

-- where the entry's key is present nothing changes; where it is absent the entry is added
abbrev pub IsPut : Bool → List Entry → Entry → List Entry → Type 0
IsPut bounded before e after =
    (HasKey e.key before × SameEntries before after) ⊎ ((HasKey e.key before → ⊥) × IsAdded bounded before e after)

-- the memo stays
pub record KeepsMemo (w v : World) : Type 0 where
  pub bound : v.is_bounded ≡ w.is_bounded
  pub same : SameEntries w.memo v.memo

-- session i is s before and t after; the other sessions stay
pub record Changes (i : ℕ) (before : List MonitorSession) (s t : MonitorSession) (after : List MonitorSession) : Type 0 where
  pub was : slice_get before i ≡ Some s
  pub becomes : after ≡ slice_set before i t

-- the given entry joins the history
abbrev pub joined : SessionHistory → Option Entry → SessionHistory
joined h None = h
joined h (Some e) = record h { gaps = h.gaps ++ e ∷ [] }

-- an idle session begins a sample
pub record IsBegin (sample : Sample) (s t : MonitorSession) : Type 0 where
  pub idle : s.phase ≡ Idle
  pub may_begin : MayBegin s sample
  pub after : t ≡ record s { phase = Begun sample; given = None }

-- the entry for the wanted key stands in the memo, and is given
pub record IsLookHit (memo : List Entry) (e : Entry) (s t : MonitorSession) : Type 0 where
  pub wants : wanted s ≡ Some e.key
  pub found : In e memo
  pub after : t ≡ record s { given = Some e }

-- the memo has no entry for the wanted key
pub record IsLookMiss (memo : List Entry) (sample : Sample) (s t : MonitorSession) : Type 0 where
  pub begun : s.phase ≡ Begun sample
  pub wants : wanted s ≡ Some (key_for s sample)
  pub lacking : HasKey (key_for s sample) memo → ⊥
  pub after : t ≡ record s { phase = Missed sample }

-- an exact entry is made for the wanted key
pub record IsFill (sample : Sample) (made : Entry) (s t : MonitorSession) : Type 0 where
  pub missed : s.phase ≡ Missed sample
  pub key : made.key ≡ key_for s sample
  pub entry : IsEntry made
  pub after : t ≡ record s { phase = Filled sample made }

-- the made entry is put into the memo, and given
pub record IsPutStep (w v : World) (sample : Sample) (made : Entry) (s t : MonitorSession) : Type 0 where
  pub filled : s.phase ≡ Filled sample made
  pub bound : v.is_bounded ≡ w.is_bounded
  pub put : IsPut w.is_bounded w.memo made v.memo
  pub after_it : t ≡ record s { phase = Begun sample; given = Some made }

-- the sample joins the log, the given entry the history, which then tells the verdict at this sample's place
pub record IsFinish (sample : Sample) (v : Verdict) (s t : MonitorSession) : Type 0 where
  pub begun : s.phase ≡ Begun sample
  pub nothing_wanted : wanted s ≡ None
  pub tells : verdict_at (joined s.history s.given) (length s.log) ≡ Some v
  pub after : t ≡ record s { log = s.log ++ accepted s sample ∷ []; history = joined s.history s.given; given = None; phase = Idle }

-- the event leads from the world w to the world v and tells these verdicts
abbrev pub IsStep : World → Event → List Told → World → Type 0
IsStep w (Begin i sample) told v =
    (s t : MonitorSession) × Changes i w.sessions s t v.sessions × IsBegin sample s t × KeepsMemo w v × (told ≡ [])
IsStep w (LookHit i) told v =
    (s t : MonitorSession) × (e : Entry) × Changes i w.sessions s t v.sessions × IsLookHit w.memo e s t × KeepsMemo w v × (told ≡ [])
IsStep w (LookMiss i) told v =
    (s t : MonitorSession) × (sample : Sample) × Changes i w.sessions s t v.sessions × IsLookMiss w.memo sample s t × KeepsMemo w v × (told ≡ [])
IsStep w (Fill i) told v =
    (s t : MonitorSession) × (sample : Sample) × (made : Entry) × Changes i w.sessions s t v.sessions × IsFill sample made s t × KeepsMemo w v × (told ≡ [])
IsStep w (Put i) told v =
    (s t : MonitorSession) × (sample : Sample) × (made : Entry) × Changes i w.sessions s t v.sessions × IsPutStep w v sample made s t × (told ≡ [])
IsStep w (Finish i) told v =
    (s t : MonitorSession) × (sample : Sample) × (verdict : Verdict) × Changes i w.sessions s t v.sessions × IsFinish sample verdict s t
    × KeepsMemo w v × (told ≡ record { session = i; verdict = verdict } ∷ [])

-- the event is allowed in the world
abbrev pub IsAllowed : World → Event → Type 0
IsAllowed w (Begin i sample) =
    (s : MonitorSession) × (slice_get w.sessions i ≡ Some s) × (s.phase ≡ Idle) × MayBegin s sample
IsAllowed w (LookHit i) =
    (s : MonitorSession) × (key : Key) × (slice_get w.sessions i ≡ Some s) × (wanted s ≡ Some key) × HasKey key w.memo
IsAllowed w (LookMiss i) =
    (s : MonitorSession) × (key : Key) × (slice_get w.sessions i ≡ Some s) × (wanted s ≡ Some key) × (HasKey key w.memo → ⊥)
IsAllowed w (Fill i) =
    (s : MonitorSession) × (sample : Sample) × (slice_get w.sessions i ≡ Some s) × (s.phase ≡ Missed sample)
IsAllowed w (Put i) =
    (s : MonitorSession) × (sample : Sample) × (made : Entry) × (slice_get w.sessions i ≡ Some s) × (s.phase ≡ Filled sample made)
IsAllowed w (Finish i) =
    (s : MonitorSession) × (sample : Sample) × (slice_get w.sessions i ≡ Some s) × (s.phase ≡ Begun sample) × (wanted s ≡ None)

-- the events, one after the other, lead from w to v and tell these verdicts in order
abbrev pub LeadTo : World → List Event → List Told → World → Type 0
LeadTo w [] told v = KeepsMemo w v × (w.sessions ≡ v.sessions) × (told ≡ [])
LeadTo w (event ∷ events) told v =
    (u : World) × (now later : List Told) × IsStep w event now u × LeadTo u events later v × (told ≡ now ++ later)

-- the verdicts of one session, in order
abbrev pub verdicts_of : ℕ → List Told → List Verdict
verdicts_of i [] = []
verdicts_of i (t ∷ ts) = if t.session == i then t.verdict ∷ verdicts_of i ts else verdicts_of i ts

-- what a world keeps: the memo's keys are distinct, each entry is exact for its key, and each session keeps what a session keeps
pub record IsWorld (w : World) : Type 0 where
  pub differ : KeysDiffer w.memo
  pub entries : (e : Entry) → In e w.memo → IsEntry e
  pub sessions : (s : MonitorSession) → In s w.sessions → IsMonitorSession s

-- an event whose sample, where it has one, has its numbers in lowest terms
abbrev pub IsEvent : Event → Type 0
IsEvent (Begin i sample) = IsSample (length sample.cells) sample
IsEvent (LookHit i) = ⊤
IsEvent (LookMiss i) = ⊤
IsEvent (Fill i) = ⊤
IsEvent (Put i) = ⊤
IsEvent (Finish i) = ⊤

-- an event that needs nothing but its session and the memo: no outcome, and no comparison of keys
abbrev pub IsOfSession : Event → Type 0
IsOfSession (Begin i sample) = ⊤
IsOfSession (LookHit i) = ⊤
IsOfSession (LookMiss i) = ⊤
IsOfSession (Fill i) = ⊥
IsOfSession (Put i) = ⊥
IsOfSession (Finish i) = ⊤
