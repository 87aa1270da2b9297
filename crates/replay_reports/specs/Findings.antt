-- What is found of the text of a run, for the samples of a log, and the line that tells it.
use Rattle.std.specs.Prelude.{◌≡◌, ◌⊎◌, ℕ, List, ◌++◌, codes, decimal}
use Rattle.run_specs.specs.Automaton.{Automaton}
use Rattle.run_specs.specs.Logs.{Sample}
use Rattle.run_specs.specs.Runs.{GapRun, VisitsUnsafe}
use Rattle.replay_specs.specs.RunTexts.{run_text, IsWritable}
use Rattle.replay_specs.specs.RunTextFaults.{FormAt, RangeAt, IsFirstTextFault}
use Rattle.replay_specs.specs.RunChecks.{run_of, IsRunOf, IsPlace, PassesAt}
use Rattle.replay_reports.specs.declared.Finding.{Finding}
use Rattle.replay_reports.specs.declared.Finding.TheVariants.{Alarm, Safe, No, Passes, Text, Range}
use Rattle.replay_reports.specs.LogSamples.{accepted_samples}
use Rattle.replay_reports.specs.PlusSigns.{without_plus_signs}

-- the text is that of a run of these gaps
pub record IsRunText (text : List ℕ) (gaps : List GapRun) : Type 0 where
  pub writable : IsWritable gaps
  pub same : text ≡ run_text gaps

-- it is so found of a run of these gaps
abbrev pub IsFoundOfRun : Automaton → ℕ → List Sample → List GapRun → Finding → Type 0
IsFoundOfRun a k samples gaps Alarm = IsRunOf a k samples gaps × VisitsUnsafe a (run_of gaps)
IsFoundOfRun a k samples gaps Safe = IsRunOf a k samples gaps × (VisitsUnsafe a (run_of gaps) → ⊥)
IsFoundOfRun a k samples gaps (No place) = (IsRunOf a k samples gaps → ⊥) × IsPlace a k samples gaps place
IsFoundOfRun a k samples gaps (Passes place) = PassesAt a k samples gaps place
IsFoundOfRun a k samples gaps (Text line) = ⊥
IsFoundOfRun a k samples gaps (Range line) = ⊥

-- it is so found of a text that is that of no run
abbrev pub IsFault : List ℕ → Finding → Type 0
IsFault text Alarm = ⊥
IsFault text Safe = ⊥
IsFault text (No place) = ⊥
IsFault text (Passes place) = ⊥
IsFault text (Text line) = IsFirstTextFault text (FormAt line)
IsFault text (Range line) = IsFirstTextFault text (RangeAt line)

-- it is so found of a text: of its run, or of its first fault
abbrev pub IsFound : Automaton → ℕ → List Sample → List ℕ → Finding → Type 0
IsFound a k samples text finding =
    ((gaps : List GapRun) × IsRunText text gaps × IsFoundOfRun a k samples gaps finding) ⊎ IsFault text finding

-- it is so found of a text without the `+ ` of its lines, for the samples that the text of a log accepts
abbrev pub Finds : Automaton → ℕ → List ℕ → List ℕ → Finding → Type 0
Finds a k log text finding = IsFound a k (accepted_samples a log) (without_plus_signs text) finding

-- the line that tells it
abbrev pub line_of : Finding → List ℕ
line_of Alarm = codes "replay,alarm\n"
line_of Safe = codes "replay,safe\n"
line_of (No place) = codes "replay,no," ++ decimal place ++ codes "\n"
line_of (Passes place) = codes "replay,passes," ++ decimal place ++ codes "\n"
line_of (Text line) = codes "replay,text," ++ decimal line ++ codes "\n"
line_of (Range line) = codes "replay,range," ++ decimal line ++ codes "\n"
