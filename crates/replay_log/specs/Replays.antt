-- What the status of a replay says of the bytes that were read and written. The run's text is what is read.
use Rattle.std.specs.Prelude.{◌≡◌, ◌⊎◌, ℕ, ◌<◌, ◌≤◌, List, [], ◌++◌, length, take, Option, IfSome}
use Rattle.std.specs.Io.KnownBytes.{Appends, Consumes, IsAtEnd, Keeps}
use Rattle.mon_io.specs.Faults.{Rose}
use Rattle.run_specs.specs.Automaton.{Automaton}
use Rattle.replay_reports.specs.declared.Finding.{Finding}
use Rattle.replay_reports.specs.declared.Finding.TheVariants.{Alarm, Safe, No, Passes, Text, Range}
use Rattle.replay_reports.specs.Findings.{Finds, line_of}
use Rattle.report_loop.specs.declared.status.Status.{Status}
use Rattle.report_loop.specs.declared.status.Status.TheVariants as status
use Rattle.report_loop.specs.Outcome.{Streams, HasEnded}
use Rattle.replay_log.specs.declared.reading.NoText.{NoText}
use Rattle.replay_log.specs.declared.reading.NoText.TheVariants as none

-- the most bytes of the text of a log, or of a run
abbrev pub text_limit : ℕ
text_limit = 16777216

-- the status of what is found of a run's text
abbrev pub status_of : Finding → Status
status_of Alarm = status.Alarm
status_of Safe = status.Clean
status_of (No place) = status.NotARun
status_of (Passes place) = status.Overflow
status_of (Text line) = status.NotARun
status_of (Range line) = status.NotARun

-- the run's text was read to its end, and of the line that tells this finding all but the rest was written
pub record TellsBut (a : Automaton) (k : ℕ) (log : List ℕ) (before now : Streams) (rest : List ℕ) (finding : Finding) : Type 0 where
  pub log_within : length log ≤ text_limit
  pub text : List ℕ
  pub consumed : Consumes before.log now.log text
  pub ended : HasEnded before now
  pub within : length text ≤ text_limit
  pub finds : Finds a k log text finding
  pub written : List ℕ
  pub line : line_of finding ≡ written ++ rest
  pub taken : Appends before.out now.out written

-- the whole line was written, and this is the status of what it tells
abbrev pub TellsAll : Automaton → ℕ → List ℕ → Streams → Streams → Status → Type 0
TellsAll a k log before now s = (finding : Finding) × TellsBut a k log before now [] finding × (s ≡ status_of finding)

-- the beginning of a line was written
abbrev pub TellsSome : Automaton → ℕ → List ℕ → Streams → Streams → Type 0
TellsSome a k log before now = (finding : Finding) × (rest : List ℕ) × TellsBut a k log before now rest finding

-- the bytes left, before and after a text was read that is too long
abbrev pub IsLongText : Option (List ℕ) → Option (List ℕ) → Type 0
IsLongText before now = (text : List ℕ) × Consumes before now text × (text_limit < length text)

-- the text of the log or that of the run has too many bytes
abbrev pub IsTooLong : List ℕ → Streams → Streams → Type 0
IsTooLong log before now = (text_limit < length log) ⊎ IsLongText before.log now.log

-- what the status of a replay says, by the text of the log. Clean, Alarm, Overflow and NotARun: the run's text was read to its end, and the
-- line was written. ReadFault and Limit: nothing was written. WriteFault: the beginning of the line was written. Memory: nothing was
-- written, or the beginning of the line
abbrev pub SaysReplay : Automaton → ℕ → List ℕ → Streams → Streams → Status → Type 0
SaysReplay a k log before now status.Clean = TellsAll a k log before now status.Clean
SaysReplay a k log before now status.Alarm = TellsAll a k log before now status.Alarm
SaysReplay a k log before now status.Overflow = TellsAll a k log before now status.Overflow
SaysReplay a k log before now status.NotARun = TellsAll a k log before now status.NotARun
SaysReplay a k log before now status.ReadFault = Keeps before.out now.out × Rose before.log_faults now.log_faults
SaysReplay a k log before now status.Limit = Keeps before.out now.out × IsTooLong log before now
SaysReplay a k log before now status.WriteFault = TellsSome a k log before now × Rose before.out_faults now.out_faults
SaysReplay a k log before now status.Memory = Keeps before.out now.out ⊎ TellsSome a k log before now
SaysReplay a k log before now _ = ⊥

-- ---- in steps

-- the bytes left, before and after a whole text was read
pub record IsWholeText (before now : Option (List ℕ)) (text : List ℕ) : Type 0 where
  pub consumed : Consumes before now text
  pub ended : IfSome before (λ _. IsAtEnd now)
  pub within : length text ≤ text_limit

-- the status where no text was had
abbrev pub status_without : NoText → Status
status_without none.Failed = status.ReadFault
status_without none.Long = status.Limit
status_without none.Memory = status.Memory

-- the line of a finding was written, or its first bytes
abbrev pub IsTold : Option (List ℕ) → Option (List ℕ) → ℕ → ℕ → Finding → Status → Type 0
IsTold old new before now finding s =
    ((s ≡ status_of finding) × Appends old new (line_of finding))
    ⊎ ((n : ℕ) × Appends old new (take n (line_of finding)) × (((s ≡ status.WriteFault) × Rose before now) ⊎ (s ≡ status.Memory)))
