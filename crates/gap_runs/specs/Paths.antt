-- The numbers of a gap, backwards along its whole path.
use Rattle.std.specs.Prelude.{◌⊎◌, ℕ, ◌-◌, List, [], ◌∷◌, drop, length, slice_index_or}
use Rattle.poly_specs.specs.Rows.{Row}
use Rattle.poly_specs.specs.Systems.{System, no_system}
use Rattle.run_specs.specs.Automaton.{Automaton, transition_at}
use Rattle.sample_succ.specs.Parts.{AreParts}
use Rattle.gap_runs.specs.Traces.{BackValue, IsLegBack, IsJumpBack, LegBackPasses, JumpBackPasses}

-- the system of this number
abbrev pub system_at : List System → ℕ → System
system_at systems i = slice_index_or systems i no_system

-- the last system
abbrev pub last_system : List System → System
last_system systems = system_at systems (length systems - 1)

-- the systems after each leg and each jump along the path from location l, from the one before
abbrev pub ArePath : Automaton → ℕ → List ℕ → System → List System → Type 0
ArePath a l path before systems = (plain : List Row) × AreParts a l path before plain systems

-- back along the path from location l, where these are the system before its first leg and those after each leg and each jump
abbrev pub AreTraced : Automaton → ℕ → List ℕ → System → List System → BackValue → BackValue → Type 0
AreTraced a l [] before systems old new = IsLegBack a l before.rows old new
AreTraced a l (e ∷ path) before systems old new =
    (later : BackValue) × (between : BackValue)
    × AreTraced a (transition_at a e).target path (system_at systems 1) (drop 2 systems) old later
    × IsJumpBack a e (system_at systems 0).rows later between
    × IsLegBack a l before.rows between new

-- going back so passes
abbrev pub TracePasses : Automaton → ℕ → List ℕ → System → List System → BackValue → Type 0
TracePasses a l [] before systems old = LegBackPasses a l before.rows old
TracePasses a l (e ∷ path) before systems old =
    TracePasses a (transition_at a e).target path (system_at systems 1) (drop 2 systems) old
    ⊎ ((later : BackValue) × AreTraced a (transition_at a e).target path (system_at systems 1) (drop 2 systems) old later
    × (JumpBackPasses a e (system_at systems 0).rows later
    ⊎ ((between : BackValue) × IsJumpBack a e (system_at systems 0).rows later between × LegBackPasses a l before.rows between)))
