-- The first run of an alarm, from the history of its session.
use Rattle.std.specs.Prelude.{◌≡◌, ℕ, suc, List, take, All}
use Rattle.replay_specs.specs.RunTexts.{IsWritableGap}
use Rattle.run_specs.specs.Aims.{to_alarm}
use Rattle.run_specs.specs.FirstRun.{IsFirstRun}
use Rattle.run_specs.specs.HistoryLogs.{log_of}
use Rattle.run_specs.specs.Logs.{Sample}
use Rattle.run_specs.specs.RunPasses.{RunPasses}
use Rattle.run_specs.specs.Runs.{GapRun, Run}
use Rattle.run_specs.specs.SessionHistories.{SessionHistory}

-- the log of the history up to sample number i, counted from 0
abbrev pub log_to : SessionHistory → ℕ → List Sample
log_to h i = take (suc i) (log_of h)

-- these are the gaps of the first run that explains the alarm at sample number i, and they can be written
pub record IsAlarmRun (h : SessionHistory) (i : ℕ) (gaps : List GapRun) : Type 0 where
  pub run : Run
  pub first : IsFirstRun h.automaton h.jumps (log_to h i) to_alarm run
  pub same : run.gaps ≡ gaps
  pub writable : All IsWritableGap gaps

-- the log up to this sample passes, or its first run does
abbrev pub AlarmRunPasses : SessionHistory → ℕ → Type 0
AlarmRunPasses h i = RunPasses h.automaton h.jumps (log_to h i) to_alarm
