-- What is looked for in the runs of a log.
use Rattle.std.specs.Prelude.{ℕ, Bool, true, false, IsTrue, List, [], ◌∷◌}
use Rattle.poly_specs.specs.Fractions.{Fraction}
use Rattle.poly_specs.specs.Rows.{Row, AllHold}
use Rattle.run_specs.specs.Automaton.{Automaton}
use Rattle.run_specs.specs.Logs.{Sample}
use Rattle.run_specs.specs.Runs.{GapRun, Run, IsRun, VisitsUnsafe, end_point}
use Rattle.run_specs.specs.Stages.{at_most, at_least}

-- an aim: whether a run must visit an unsafe location, and rows that its last values must meet
pub record Aim : Type 0 where
  pub alarm : Bool
  pub rows : List Row

-- the rows hold at the last values of these gap runs; where there is no gap there are none
abbrev pub EndsWhere : List Row → List GapRun → Type 0
EndsWhere rows [] = ⊥
EndsWhere rows (g ∷ []) = AllHold rows (end_point g)
EndsWhere rows (g ∷ h ∷ gs) = EndsWhere rows (h ∷ gs)

-- the run meets the aim
pub record Meets (a : Automaton) (aim : Aim) (run : Run) : Type 0 where
  pub visits : IsTrue aim.alarm → VisitsUnsafe a run
  pub ends : EndsWhere aim.rows run.gaps

-- a run of the log that meets the aim
pub record IsAimedRun (a : Automaton) (k : ℕ) (samples : List Sample) (aim : Aim) (run : Run) : Type 0 where
  pub run_of : IsRun a k samples run
  pub meets : Meets a aim run

-- an alarm: a visit to an unsafe location, and any last values
abbrev pub to_alarm : Aim
to_alarm = record { alarm = true; rows = [] }

-- of m variables, a value of variable j: no visit is asked for, and the last value of j is v
abbrev pub to_value : ℕ → ℕ → Fraction → Aim
to_value m j v = record { alarm = false; rows = at_most m j v ∷ at_least m j v ∷ [] }
