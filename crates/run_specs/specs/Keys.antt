-- The states where runs may stand, and the key of a gap: all that the states after it depend on.
use Rattle.std.specs.Prelude.{◌≡◌, ℕ, ◌<◌, ◌≤◌, Bool, false, List, [], ◌∷◌, length, All, IfSome, Option, slice_index_or}
use Rattle.poly_specs.specs.Fractions.{Fraction, AtMost, zero_fraction}
use Rattle.poly_specs.specs.LowestTerms.{IsLowest}
use Rattle.poly_specs.specs.Rows.{Row, AllWide}
use Rattle.run_specs.specs.Automaton.{Automaton, width, never}

-- where a run may stand: a location, whether a run to here visited an unsafe one, and the rows of the values
pub record State : Type 0 where
  pub loc : ℕ
  pub seen_unsafe : Bool
  pub rows : List Row

-- what the states after a gap depend on: the states before it, its length and what its sample observes
pub record Key : Type 0 where
  pub automaton : Automaton
  pub jumps : ℕ
  pub belief : List State
  pub gap : Fraction
  pub seen : List (Option Fraction)

-- a state of an automaton
pub record IsState (a : Automaton) (s : State) : Type 0 where
  pub loc : s.loc < length a.locations
  pub wide : AllWide (width a) s.rows

-- a key within its limits, its numbers in lowest terms
pub record IsKey (key : Key) : Type 0 where
  pub jumps : key.jumps ≤ 6
  pub belief : All (IsState key.automaton) key.belief
  pub gap : IsLowest key.gap × AtMost zero_fraction key.gap
  pub sized : length key.seen ≡ width key.automaton
  pub seen : All (λ cell. IfSome cell IsLowest) key.seen

-- past the last state, one that no point is in
abbrev pub no_state : State
no_state = record { loc = 0; seen_unsafe = false; rows = never ∷ [] }

-- the state before the gap of this number
abbrev pub parent_at : Key → ℕ → State
parent_at key i = slice_index_or key.belief i no_state
