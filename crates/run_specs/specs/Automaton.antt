-- Linear hybrid automata, as plain records.
use Rattle.std.specs.Prelude.{ℕ, List, [], ◌∷◌, pos, Bool, false, Option, None, length, slice_index_or}
use Rattle.poly_specs.specs.Fractions.{Fraction, zero_fraction}
use Rattle.poly_specs.specs.Rows.{Row}

-- where a run stays: the start, the invariant, and the slopes of its legs
pub record Location : Type 0 where
  pub name : List ℕ
  pub is_unsafe : Bool
  -- where a run may start; none: no run starts here
  pub init : Option (List Row)
  pub invariant : List Row
  -- over the slope of each variable, and then the duration
  pub slopes : List Row

-- how a run jumps
pub record Transition : Type 0 where
  pub label : List ℕ
  pub source : ℕ
  pub target : ℕ
  -- over the values before, and then those after
  pub relation : List Row

-- a linear hybrid automaton
pub record Automaton : Type 0 where
  pub name : List ℕ
  pub variables : List (List ℕ)
  -- of each variable: by how much an observed value may differ from the true one
  pub obs : List Fraction
  pub locations : List Location
  pub transitions : List Transition

-- the number of its variables
abbrev pub width : Automaton → ℕ
width a = length a.variables

-- a row that holds nowhere: 1 ≤ 0
abbrev pub never : Row
never = record { coef = []; cst = pos 1; strict = false }

-- a location that no point is in
abbrev pub nowhere : Location
nowhere = record { name = []; is_unsafe = false; init = None; invariant = never ∷ []; slopes = [] }

-- a transition that never happens
abbrev pub no_transition : Transition
no_transition = record { label = []; source = 0; target = 0; relation = never ∷ [] }

-- the location of this number; past the last, nowhere
abbrev pub location_at : Automaton → ℕ → Location
location_at a l = slice_index_or a.locations l nowhere

-- the transition of this number; past the last, none
abbrev pub transition_at : Automaton → ℕ → Transition
transition_at a e = slice_index_or a.transitions e no_transition

-- the tolerance of this variable; past the last, 0
abbrev pub tolerance_at : Automaton → ℕ → Fraction
tolerance_at a j = slice_index_or a.obs j zero_fraction
