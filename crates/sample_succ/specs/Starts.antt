-- The states where runs may start, location by location.
use Rattle.std.specs.Prelude.{◌≡◌, ℕ, ◌<◌, List, Option, Some, None, IsSomeAnd}
use Rattle.poly_specs.specs.Lists.{In}
use Rattle.poly_specs.specs.Rows.{Row, HasPoint}
use Rattle.run_specs.specs.Automaton.{Automaton, width}
use Rattle.run_specs.specs.Keys.{State}
use Rattle.run_specs.specs.Openings.{IsOpeningState, LocsRise, opening_rows}
use Rattle.gap_keys.specs.Views.{StateView, AreWide, states_of}

-- the state at the opening in location l, or that there is none: no run starts there
abbrev pub IsStartState : Automaton → ℕ → Option State → Type 0
IsStartState a l None = (rows : List Row) → opening_rows a l ≡ Some rows → HasPoint (width a) rows → ⊥
IsStartState a l (Some s) = (s.loc ≡ l) × IsSomeAnd (opening_rows a l) (λ rows. IsOpeningState (width a) rows s)

-- these are the states at the opening in the locations before n
pub record StartsBefore (a : Automaton) (n : ℕ) (states : List State) : Type 0 where
  pub each : (s : State) → In s states → (s.loc < n) × IsSomeAnd (opening_rows a s.loc) (λ rows. IsOpeningState (width a) rows s)
  pub all : (l : ℕ) (rows : List Row) → l < n → opening_rows a l ≡ Some rows → HasPoint (width a) rows → (s : State) × In s states × (s.loc ≡ l)
  pub rise : LocsRise 0 states

-- the same of a state as its code shows it; its system is over the automaton's variables
abbrev pub IsStart : Automaton → ℕ → Option StateView → Type 0
IsStart a l None = IsStartState a l None
IsStart a l (Some v) = IsStartState a l (Some v.state) × (v.width ≡ width a)

-- the same of states as their code shows them
pub record AreStartsBefore (a : Automaton) (n : ℕ) (views : List StateView) : Type 0 where
  pub starts : StartsBefore a n (states_of views)
  pub wide : AreWide (width a) views
