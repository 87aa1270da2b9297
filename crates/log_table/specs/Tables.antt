-- The sessions of a log that are open, as the log has them.
use Rattle.std.specs.Prelude.{◌≡◌, ℕ, List, [], ◌∷◌, ◌++◌, Bool, true, Option, Some, slice_index_or}
use Rattle.run_specs.specs.Automaton.{Automaton}
use Rattle.run_specs.specs.Logs.{Sample}
use Rattle.run_specs.specs.declared.Verdict.{Verdict}
use Rattle.run_specs.specs.declared.Verdict.TheVariants.{Overflow}
use Rattle.run_specs.specs.Verdicts.{IsLawful}
use Rattle.log_specs.specs.LogSessions.{LogSession, LogState, Judgement, opened, closed, accepted, judge_opening, judge_sample, judge_closing, session_of, state_after}
use Rattle.log_specs.specs.LogRows.{Cells}
use Rattle.log_specs.specs.Blocks.{LastReply, last_of, replied_after}
use Rattle.log_specs.specs.LogReports.{Known}

-- the jumps allowed in each gap, the open sessions in the order of their openings, the last replies to them, and how many samples were
-- accepted
pub record Table : Type 0 where
  pub jumps : ℕ
  pub sessions : List LogSession
  pub replied : List LastReply
  pub accepted : ℕ

-- what is known, where the table stands so, and a line with a byte was read or not
abbrev pub known_with : Bool → Table → Known
known_with begun t = record {
  state = record { open_sessions = t.sessions; accepted = t.accepted; has_begun = begun };
  replied = t.replied;
}

-- the state of the log, whether or not a line with a byte was read
abbrev pub state_with : Bool → Table → LogState
state_with begun t = record { open_sessions = t.sessions; accepted = t.accepted; has_begun = begun }

-- without a session
abbrev pub empty_table : ℕ → Table
empty_table jumps = record { jumps = jumps; sessions = []; replied = []; accepted = 0 }

-- the table after what a line does, and the replies in its block
abbrev pub table_after : Table → Judgement → List Verdict → Table
table_after t j replies = record {
  jumps = t.jumps;
  sessions = (state_after (state_with true t) j).open_sessions;
  replied = replied_after t.replied j replies;
  accepted = (state_after (state_with true t) j).accepted;
}

-- a session of this name was opened, by this automaton with these columns
pub record IsOpening (old new : Table) (name : List ℕ) (columns : List (List ℕ)) (a : Option Automaton) : Type 0 where
  pub session : LogSession
  pub judged : (begun : Bool) → judge_opening (state_with begun old) name columns a (session_of (state_with begun old) name) ≡ opened session
  pub next : new ≡ table_after old (opened session) []

-- the session of this name was closed
pub record IsClosing (old new : Table) (name : List ℕ) : Type 0 where
  pub judged : (begun : Bool) → judge_closing name (session_of (state_with begun old) name) ≡ closed name
  pub next : new ≡ table_after old (closed name) []

-- a sample of the session of this name was accepted, and replied to: lawfully for its samples, and after an overflow by an overflow; this
-- is now the last reply to it
pub record IsAccepted (old new : Table) (name : List ℕ) (cells : Cells) (v : Verdict) : Type 0 where
  pub session : LogSession
  pub sample : Sample
  pub judged : (begun : Bool) → judge_sample (state_with begun old) cells (session_of (state_with begun old) name) ≡ accepted session sample
  pub named : session.name ≡ name
  pub lawful : IsLawful session.automaton old.jumps (session.samples ++ sample ∷ []) v
  pub stays : last_of old.replied session.name ≡ Some Overflow → v ≡ Overflow
  pub next : new ≡ table_after old (accepted session sample) (v ∷ [])
  pub told : last_of new.replied name ≡ Some v

-- the time and the cells of a sample that has a cell for each column
abbrev pub cells_in : Sample → Cells
cells_in sample = record { time = sample.time; cells = sample.cells }

-- the name of the variable of this number
abbrev pub name_at : List (List ℕ) → ℕ → List ℕ
name_at variables c = slice_index_or variables c []
