-- The table by the parts that it is stored in, and what it keeps of them.
use Rattle.std.specs.Prelude.{◌≡◌, ◌≤◌, ℕ, suc, List, map, length, All, Option, Some, IfSome, bytes_eq}
use Rattle.std.specs.List.{IsDistinct}
use Rattle.std.specs.Map.{keys_of}
use Rattle.run_specs.specs.declared.Verdict.{Verdict}
use Rattle.run_specs.specs.SessionHistories.{verdict_at}
use Rattle.run_specs.specs.Sessions.{MonitorSession, Idle}
use Rattle.log_specs.specs.LogSessions.{LogSession}
use Rattle.log_specs.specs.Blocks.{LastReply}
use Rattle.log_table.specs.Tables.{Table, name_at}

-- an open session as it is stored, and the last reply to it
pub record Opened : Type 0 where
  pub session : MonitorSession
  pub last : Option Verdict

-- the session of this name, as the log has it
abbrev pub log_session_of : List ℕ → MonitorSession → LogSession
log_session_of name s = record {
  name = name;
  automaton = s.history.automaton;
  columns = map (name_at s.history.automaton.variables) s.columns;
  samples = s.log;
}

abbrev pub session_in : List ℕ × Opened → LogSession
session_in e = log_session_of e.0 e.1.session

abbrev pub reply_in : List ℕ × Opened → LastReply
reply_in e = record { session = e.0; reply = e.1.last }

-- the table with these entries
abbrev pub table_of : ℕ → List (List ℕ × Opened) → ℕ → Table
table_of jumps entries accepted =
    record { jumps = jumps; sessions = map session_in entries; replied = map reply_in entries; accepted = accepted }

-- an open session is idle, has so many jumps in each gap and no more samples than were accepted; its automaton's variables have distinct
-- names, and its history tells the last reply at its last sample
pub record IsOpen (k count : ℕ) (o : Opened) : Type 0 where
  pub idle : o.session.phase ≡ Idle
  pub jumps : o.session.history.jumps ≡ k
  pub few : length o.session.log ≤ count
  pub distinct : IsDistinct bytes_eq o.session.history.automaton.variables
  pub told : IfSome o.last (λ v. (i : ℕ) × (suc i ≡ length o.session.log) × (verdict_at o.session.history i ≡ Some v))

-- what a table keeps
pub record IsKept (jumps : ℕ) (entries : List (List ℕ × Opened)) (accepted : ℕ) : Type 0 where
  pub few_jumps : jumps ≤ 6
  pub distinct : IsDistinct bytes_eq (keys_of entries)
  pub opened : All (λ e. IsOpen jumps accepted e.1) entries
  pub few : length entries ≤ 1000
  pub limited : accepted ≤ 200000
