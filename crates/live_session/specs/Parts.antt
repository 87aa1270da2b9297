-- A session by the parts that it is stored in, and what it keeps of them.
use Rattle.std.specs.Prelude.{◌≡◌, ℕ, List, [], Option, Some, None, IfSome}
use Rattle.number_specs.specs.LogNumbers.{IsLogNumber}
use Rattle.run_specs.specs.Automaton.{Automaton, width}
use Rattle.run_specs.specs.Logs.{Sample}
use Rattle.run_specs.specs.Keys.{State}
use Rattle.run_specs.specs.SessionHistories.{Entry, SessionHistory, opening_states}
use Rattle.run_specs.specs.Sessions.{MonitorSession, IsMonitorSession, Phase, Idle, Begun, accepted, last_time, wanted_for}
use Rattle.gap_keys.specs.Views.{StateView, AreWide, states_of}
use Rattle.live_session.specs.declared.prepared.Prepared.{Prepared}

-- idle, or at the begun sample
abbrev pub phase_of : Option Prepared → Phase
phase_of None = Idle
phase_of (Some b) = Begun b.sample

-- a session by its parts
abbrev pub session_of : SessionHistory → List ℕ → List Sample → Option Entry → Option Prepared → MonitorSession
session_of history columns log given begun =
    record { columns = columns; log = log; history = history; given = given; phase = phase_of begun }

-- a session that has accepted no sample
abbrev pub new_session : Automaton → ℕ → List ℕ → Option (List State) → MonitorSession
new_session a jumps columns opening = record {
  columns = columns;
  log = [];
  history = record { automaton = a; jumps = jumps; opening = opening; gaps = [] };
  given = None;
  phase = Idle;
}

-- what is prepared for a begun sample: how the log will have it, and the key that it wants
pub record IsPrepared (s : MonitorSession) (b : Prepared) : Type 0 where
  pub placed : b.placed ≡ accepted s b.sample
  pub key : b.key ≡ wanted_for s b.sample None
  pub time : IsLogNumber b.sample.time

-- and there is room for it
pub record IsReady (s : MonitorSession) (log_room gaps_room : Type 0) (b : Prepared) : Type 0 where
  pub prepared : IsPrepared s b
  pub log : log_room
  pub gaps : gaps_room

-- what a session keeps: these are its states at the opening, with systems over the automaton's variables, and what it has begun needs
-- no more memory
pub record IsStored (s : MonitorSession) (belief : List StateView) (begun : Option Prepared) (log_room gaps_room : Type 0) : Type 0 where
  pub session : IsMonitorSession s
  pub opening : states_of belief ≡ opening_states s.history
  pub wide : AreWide (width s.history.automaton) belief
  pub time : IsLogNumber (last_time s.log)
  pub ready : IfSome begun (IsReady s log_room gaps_room)
