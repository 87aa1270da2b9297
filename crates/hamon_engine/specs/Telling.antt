-- The line that tells why a run ended.
use Rattle.std.specs.Prelude.{◌≢◌, ℕ, ◌<◌, List, length, take, Option, IfSome, ⊤}
use Rattle.std.specs.Io.KnownBytes.{Appends}
use Rattle.mon_io.specs.Faults.{Rose}
use Rattle.report_loop.specs.declared.status.Status.{Status}
use Rattle.report_loop.specs.declared.status.Status.TheVariants as status
use Rattle.report_loop.specs.Codes.{line_of}
use Rattle.hamon_engine.specs.Models.{TellsFault, IsRefusedFor}
use Rattle.hamon_engine.specs.declared.models.NoModels.{NoModels}
use Rattle.hamon_engine.specs.declared.models.NoModels.TheVariants as none
use Rattle.hamon_engine.specs.declared.telling.Ended.{Ended}
use Rattle.hamon_engine.specs.declared.telling.Ended.TheVariants.{At, Refused}

-- a line, or its first bytes where a write failed
abbrev pub TellsLine : Option (List ℕ) → Option (List ℕ) → ℕ → ℕ → List ℕ → Type 0
TellsLine old new before now line = (n : ℕ) × Appends old new (take n line) × (n < length line → Rose before now)

-- the line tells what is wrong with the model's text, where that is told
abbrev pub IsModelLine : Option (List ℕ) → List ℕ → Type 0
IsModelLine text line = TellsFault (λ fault. IfSome text (IsRefusedFor fault)) line

-- what is told of a run's end: for a refused model what is wrong with its text, and else the line of the status. Nothing is said of
-- want of memory, and no text of a session is read
abbrev pub IsTold : Option (List ℕ) → Option (List ℕ) → Option (List ℕ) → ℕ → ℕ → Status → Type 0
IsTold text old new before now status.Model = (line : List ℕ) × IsModelLine text line × TellsLine old new before now line
IsTold text old new before now status.Memory = ⊤
IsTold text old new before now status.SavedText = ⊥
IsTold text old new before now s = TellsLine old new before now (line_of s)

-- ---- how a run ended

abbrev pub status_of : Ended → Status
status_of (At s) = s
status_of (Refused line) = status.Model

-- the line of the status tells all, and no text has to
abbrev pub IsToldAlone : Status → Type 0
IsToldAlone status.Model = ⊥
IsToldAlone status.SavedText = ⊥
IsToldAlone _ = ⊤

-- what is to be told is the cause
abbrev pub IsTellable : Option (List ℕ) → Ended → Type 0
IsTellable text (At s) = IsToldAlone s
IsTellable text (Refused line) = IsModelLine text line.items

-- the end of a run that has no automata
abbrev pub ended_by : NoModels → Ended
ended_by (none.Refused line) = Refused line
ended_by none.Failed = At status.ReadFault
ended_by none.Memory = At status.Memory

-- the line was written, or its first bytes where a write failed; nothing is said of want of memory
abbrev pub IsLineTold : Option (List ℕ) → Option (List ℕ) → ℕ → ℕ → List ℕ → Status → Type 0
IsLineTold old new before now line s = s ≢ status.Memory → TellsLine old new before now line
