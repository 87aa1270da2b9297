-- A monitor's session: its log, its history, and what it is at.
use Rattle.std.specs.Prelude.{◌≡◌, ℕ, ◌<◌, ◌≤◌, if◌then◌else◌, List, [], ◌∷◌, length, replicate, slice_set, Option, Some, None, ⊤}
use Rattle.poly_specs.specs.Lists.{In}
use Rattle.poly_specs.specs.Fractions.{Fraction, AtMost, Below, zero_fraction, difference}
use Rattle.poly_specs.specs.Arithmetic.{lowest}
use Rattle.run_specs.specs.declared.Verdict.{Verdict}
use Rattle.run_specs.specs.Automaton.{width}
use Rattle.run_specs.specs.Logs.{Sample, IsSample, IsLog}
use Rattle.run_specs.specs.Keys.{State, Key}
use Rattle.run_specs.specs.SessionHistories.{Entry, IsEntry, SessionHistory, IsHistory, last_belief, has_overflowed, verdict_at}

-- what a session is at: nothing; a begun sample; one whose entry the memo lacks; one with the entry that was made for it
pub data Phase : Type 0 where
  Idle : Phase
  Begun : (sample : Sample) → Phase
  Missed : (sample : Sample) → Phase
  Filled : (sample : Sample) (made : Entry) → Phase

-- the observed columns, the accepted samples, the history, the entry given to the begun sample, and the phase
pub record MonitorSession : Type 0 where
  pub columns : List ℕ
  pub log : List Sample
  pub history : SessionHistory
  pub given : Option Entry
  pub phase : Phase

-- ---- samples

-- the cells by variable, from those by column; blank where the variable is no column
abbrev pub placed : ℕ → List ℕ → List (Option Fraction) → List (Option Fraction)
placed m [] cells = replicate m None
placed m (c ∷ columns) [] = replicate m None
placed m (c ∷ columns) (cell ∷ cells) = slice_set (placed m columns cells) c cell

-- the sample as the log has it
abbrev pub accepted : MonitorSession → Sample → Sample
accepted s sample = record { time = sample.time; cells = placed (width s.history.automaton) s.columns sample.cells }

-- the time of the last sample; 0 before the first
abbrev pub last_time : List Sample → Fraction
last_time [] = zero_fraction
last_time (s ∷ []) = s.time
last_time (s ∷ t ∷ ss) = last_time (t ∷ ss)

-- the first time is at least 0, and a later one above the time before
abbrev pub IsInTime : List Sample → Fraction → Type 0
IsInTime [] t = AtMost zero_fraction t
IsInTime (s ∷ ss) t = Below (last_time (s ∷ ss)) t

-- the session may begin this sample
pub record MayBegin (s : MonitorSession) (sample : Sample) : Type 0 where
  pub cells : length sample.cells ≡ length s.columns
  pub time : IsInTime s.log sample.time
  pub room : length s.log < 200000

-- ---- the key that a session wants

-- the key for this sample
abbrev pub key_for : MonitorSession → Sample → Key
key_for s sample = record {
  automaton = s.history.automaton;
  jumps = s.history.jumps;
  belief = last_belief s.history;
  gap = lowest (difference sample.time (last_time s.log));
  seen = (accepted s sample).cells;
}

-- the key for a begun sample with no entry: none where there is no state, or the session has overflowed
abbrev pub key_wanted : MonitorSession → Sample → List State → Option Key
key_wanted s sample [] = None
key_wanted s sample (b ∷ bs) = if has_overflowed s.history then None else Some (key_for s sample)

-- the key for a begun sample: none where an entry is given
abbrev pub wanted_for : MonitorSession → Sample → Option Entry → Option Key
wanted_for s sample (Some e) = None
wanted_for s sample None = key_wanted s sample (last_belief s.history)

-- the key that the session wants in this phase
abbrev pub wanted_in : MonitorSession → Phase → Option Key
wanted_in s Idle = None
wanted_in s (Begun sample) = wanted_for s sample s.given
wanted_in s (Missed sample) = None
wanted_in s (Filled sample made) = None

-- the key that the session wants, if it wants one
abbrev pub wanted : MonitorSession → Option Key
wanted s = wanted_in s s.phase

-- ---- what a session keeps

-- the columns are variables, each at most once
abbrev pub AreColumns : ℕ → List ℕ → Type 0
AreColumns m [] = ⊤
AreColumns m (c ∷ columns) = (c < m) × (In c columns → ⊥) × AreColumns m columns

-- the entries are those of the first samples after time t: each key has its sample's gap and values
abbrev pub AreEntriesOf : Fraction → List Sample → List Entry → Type 0
AreEntriesOf t samples [] = ⊤
AreEntriesOf t [] (e ∷ es) = ⊥
AreEntriesOf t (s ∷ ss) (e ∷ es) =
    (e.key.gap ≡ lowest (difference s.time t)) × (e.key.seen ≡ s.cells) × AreEntriesOf s.time ss es

-- the sample may be begun, and its numbers are in lowest terms
pub record IsBegun (s : MonitorSession) (sample : Sample) : Type 0 where
  pub is_sample : IsSample (length s.columns) sample
  pub may_begin : MayBegin s sample

-- the entry is one for the key that the sample wants
pub record IsEntryFor (s : MonitorSession) (sample : Sample) (e : Entry) : Type 0 where
  pub wants : wanted_for s sample None ≡ Some e.key
  pub entry : IsEntry e

-- what the phase and the given entry say; an entry is given to a begun sample alone
abbrev pub PhaseHolds : MonitorSession → Phase → Option Entry → Type 0
PhaseHolds s Idle None = ⊤
PhaseHolds s (Begun sample) None = IsBegun s sample
PhaseHolds s (Begun sample) (Some e) = IsBegun s sample × IsEntryFor s sample e
PhaseHolds s (Missed sample) None = IsBegun s sample × (wanted_for s sample None ≡ Some (key_for s sample))
PhaseHolds s (Filled sample made) None = IsBegun s sample × IsEntryFor s sample made
PhaseHolds s Idle (Some e) = ⊥
PhaseHolds s (Missed sample) (Some e) = ⊥
PhaseHolds s (Filled sample made) (Some e) = ⊥

-- what a session keeps; its history tells a verdict for each sample of its log
pub record IsMonitorSession (s : MonitorSession) : Type 0 where
  pub columns : AreColumns (width s.history.automaton) s.columns
  pub log : IsLog (width s.history.automaton) s.log
  pub room : length s.log ≤ 200000
  pub history : IsHistory s.history
  pub entries : AreEntriesOf zero_fraction s.log s.history.gaps
  pub told : (i : ℕ) → i < length s.log → (v : Verdict) × (verdict_at s.history i ≡ Some v)
  pub phase : PhaseHolds s s.phase s.given
