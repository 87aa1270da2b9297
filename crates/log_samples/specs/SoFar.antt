-- What the lines of a log gave so far.
use Rattle.std.specs.Prelude.{◌≡◌, ◌≤◌, ℕ, List, [], ◌∷◌, length, Bool, false, Option, None, Some}
use Rattle.run_specs.specs.Automaton.{Automaton}
use Rattle.run_specs.specs.Logs.{Sample}
use Rattle.log_specs.specs.LogSessions.{LogSession, LogState, Judgement, state_after}

-- the automaton that judges, whether a line with a byte was read, the columns of the session if it is open, and its samples
pub record SoFar : Type 0 where
  pub automaton : Automaton
  pub has_begun : Bool
  pub columns : Option (List (List ℕ))
  pub samples : List Sample

-- the session of these columns and samples
abbrev pub session : Automaton → List (List ℕ) → List Sample → LogSession
session a columns samples = record { name = []; automaton = a; columns = columns; samples = samples }

-- the session that is open, if one is
abbrev pub sessions : Automaton → Option (List (List ℕ)) → List Sample → List LogSession
sessions a None samples = []
sessions a (Some columns) samples = session a columns samples ∷ []

-- the state of the log
abbrev pub state_of : SoFar → LogState
state_of r = record { open_sessions = sessions r.automaton r.columns r.samples; accepted = length r.samples; has_begun = r.has_begun }

-- no sample without a session, no session before a line with a byte, and no more samples than are accepted
pub record IsKept (r : SoFar) : Type 0 where
  pub samples : r.columns ≡ None → r.samples ≡ []
  pub columns : r.has_begun ≡ false → r.columns ≡ None
  pub few : length r.samples ≤ 200000

-- what was read is what a line so judged leaves
pub record Takes (old new : SoFar) (j : Judgement) : Type 0 where
  pub automaton : new.automaton ≡ old.automaton
  pub next : state_of new ≡ state_after (state_of old) j
