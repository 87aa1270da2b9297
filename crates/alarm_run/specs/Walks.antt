-- Going back from the end of a first run to its start, gap by gap.
use Rattle.std.specs.Prelude.{◌≡◌, ℕ, ◌<◌, List, All, drop, length, reverse, take}
use Rattle.std.specs.List.{AllZip}
use Rattle.poly_specs.specs.Fractions.{Fraction, IsFraction, SameFraction}
use Rattle.poly_specs.specs.Rows.{AllHold}
use Rattle.replay_specs.specs.RunTexts.{IsWritableGap}
use Rattle.run_specs.specs.Aims.{to_alarm}
use Rattle.run_specs.specs.Automaton.{width}
use Rattle.run_specs.specs.FirstRun.{IsFirstRun, last_values}
use Rattle.run_specs.specs.Histories.{history_of}
use Rattle.run_specs.specs.HistoryLogs.{log_of}
use Rattle.run_specs.specs.RunPasses.{RunPasses}
use Rattle.run_specs.specs.Runs.{GapRun, Run}
use Rattle.run_specs.specs.SessionHistories.{SessionHistory}
use Rattle.run_specs.specs.StateHistories.{states_at, state_at, history_at}
use Rattle.gap_runs.specs.Befores.{common_point}

-- where the walk stands: the number of the state, its values, and the gap runs after it, the last one first
pub record WalkValue : Type 0 where
  pub number : ℕ
  pub last : List Fraction
  pub gaps : List GapRun

-- the first run of the log of the first n gaps that visits an unsafe location
abbrev pub IsAlarmed : SessionHistory → ℕ → Run → Type 0
IsAlarmed h n run = IsFirstRun h.automaton h.jumps (take n (log_of h)) to_alarm run

-- the log of the first n gaps passes, or that run does
abbrev pub AlarmedPasses : SessionHistory → ℕ → Type 0
AlarmedPasses h n = RunPasses h.automaton h.jumps (take n (log_of h)) to_alarm

-- the run up to its gap of this number
abbrev pub run_to : ℕ → Run → Run
run_to i run = record run { gaps = take i run.gaps }

-- the walk stands at a point of one of the states after i gaps, and its gap runs can be written
pub record IsPlace (h : SessionHistory) (i : ℕ) (w : WalkValue) : Type 0 where
  pub below : w.number < length (states_at h i)
  pub sized : length w.last ≡ width h.automaton
  pub fractions : All IsFraction w.last
  pub inside : AllHold (state_at h i w.number).rows (common_point w.last)
  pub writable : All IsWritableGap w.gaps

-- it stands where the first i gaps of the run end, in the state of their history, and has gone back over all later gaps
pub record IsWalked (h : SessionHistory) (i : ℕ) (run : Run) (w : WalkValue) : Type 0 where
  pub along : history_at h i w.number ≡ history_of (run_to i run)
  pub ends : 0 < i → AllZip SameFraction (last_values (take i run.gaps)) w.last
  pub later : drop i run.gaps ≡ reverse w.gaps

-- of the first n gaps: it stands where the first i gaps of the first run end, whichever that is
abbrev pub IsWalkedBack : SessionHistory → ℕ → ℕ → WalkValue → Type 0
IsWalkedBack h n i w = (run : Run) → IsAlarmed h n run → IsWalked h i run w
