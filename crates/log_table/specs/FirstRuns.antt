-- The first run that explains an alarm of an open session.
use Rattle.std.specs.Prelude.{◌≡◌, ℕ, suc, List, length, true, Some}
use Rattle.replay_specs.specs.RunTexts.{IsWritable}
use Rattle.run_specs.specs.Aims.{to_alarm}
use Rattle.run_specs.specs.FirstRun.{IsFirstRun}
use Rattle.run_specs.specs.RunPasses.{RunPasses}
use Rattle.run_specs.specs.Runs.{GapRun, Run}
use Rattle.run_specs.specs.SessionHistories.{verdict_at}
use Rattle.run_specs.specs.Sessions.{MonitorSession}
use Rattle.run_specs.specs.declared.Verdict.TheVariants.{Alarm}
use Rattle.log_specs.specs.LogSessions.{LogSession, session_of}
use Rattle.log_table.specs.Tables.{Table, state_with}

-- ---- of a monitor's session

-- the history of the session tells an alarm at its last sample
abbrev pub EndsInAlarm : MonitorSession → Type 0
EndsInAlarm s = (i : ℕ) × (suc i ≡ length s.log) × (verdict_at s.history i ≡ Some Alarm)

-- these are the gaps of the first run of its samples that visits an unsafe location, and they have a text
pub record IsSessionRun (s : MonitorSession) (gaps : List GapRun) : Type 0 where
  pub run : Run
  pub first : IsFirstRun s.history.automaton s.history.jumps s.log to_alarm run
  pub same : run.gaps ≡ gaps
  pub writable : IsWritable gaps

-- its samples pass, or their first run does
abbrev pub SessionRunPasses : MonitorSession → Type 0
SessionRunPasses s = RunPasses s.history.automaton s.history.jumps s.log to_alarm

-- ---- of a session of the table

-- these are the gaps of the first run of the session's samples that visits an unsafe location, and they have a text
pub record IsFirstRunOf (t : Table) (name : List ℕ) (gaps : List GapRun) : Type 0 where
  pub session : LogSession
  pub open_one : session_of (state_with true t) name ≡ Some session
  pub run : Run
  pub first : IsFirstRun session.automaton t.jumps session.samples to_alarm run
  pub same : run.gaps ≡ gaps
  pub writable : IsWritable gaps

-- the session's samples pass, or their first run does
pub record FirstRunOfPasses (t : Table) (name : List ℕ) : Type 0 where
  pub session : LogSession
  pub open_one : session_of (state_with true t) name ≡ Some session
  pub passes : RunPasses session.automaton t.jumps session.samples to_alarm
