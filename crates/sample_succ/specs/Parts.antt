-- The systems that a gap goes through along a path: its start, and then after each leg and each jump.
use Rattle.std.specs.Prelude.{◌≡◌, ◌⊎◌, ◌↔◌, ℕ, ◌+◌, List, [], ◌∷◌, length, ℤ, pos, ◌<ℤ◌, Option, Some, None}
use Rattle.poly_specs.specs.Bits.{SomePasses}
use Rattle.poly_specs.specs.Elimination.{formed_each}
use Rattle.poly_specs.specs.Lists.{IsAmong}
use Rattle.poly_specs.specs.Rows.{Row, over, AllHold}
use Rattle.poly_specs.specs.Systems.{System}
use Rattle.run_specs.specs.Automaton.{Automaton, width, transition_at}
use Rattle.run_specs.specs.Ends.{SomeLegEnds, SomeJumpEnds}
use Rattle.run_specs.specs.Keys.{Key, parent_at}
use Rattle.run_specs.specs.Stages.{Stage, rows_after, gap_start, leg_stage, jump_stage, path_stages}

-- the system holds exactly at the ends, with elapsed time, of legs in location l from the one before; its rows are some of the plain stage's
pub record IsAfterLeg (a : Automaton) (l : ℕ) (before after : System) (plain : List Row) : Type 0 where
  pub wide : after.width ≡ width a + 1
  pub exact : (d : ℤ) (end : List ℤ) → pos 0 <ℤ d → length end ≡ width a + 1 → AllHold after.rows (over d end) ↔ SomeLegEnds a l before.rows (over d end)
  pub plain_rows : IsAmong after.rows (rows_after (leg_stage a l plain))

-- the same of jumps by transition e
pub record IsAfterJump (a : Automaton) (e : ℕ) (before after : System) (plain : List Row) : Type 0 where
  pub wide : after.width ≡ width a + 1
  pub exact : (d : ℤ) (end : List ℤ) → pos 0 <ℤ d → length end ≡ width a + 1 → AllHold after.rows (over d end) ↔ SomeJumpEnds a e before.rows (over d end)
  pub plain_rows : IsAmong after.rows (rows_after (jump_stage a e plain))

-- the systems after each leg and each jump along the path from location l, where the system before, and the plain rows, are these
abbrev pub AreParts : Automaton → ℕ → List ℕ → System → List Row → List System → Type 0
AreParts a l [] before plain systems = (s : System) × IsAfterLeg a l before s plain × (systems ≡ s ∷ [])
AreParts a l (e ∷ path) before plain systems =
    (s : System) × (t : System) × (rest : List System)
    × IsAfterLeg a l before s plain
    × IsAfterJump a e s t (rows_after (leg_stage a l plain))
    × AreParts a (transition_at a e).target path t (rows_after (jump_stage a e (rows_after (leg_stage a l plain)))) rest
    × (systems ≡ s ∷ t ∷ rest)

-- the start of the gap from this parent: the parent's rows hold, and no time has elapsed
abbrev pub start_of : Key → ℕ → System
start_of key i = record { width = width key.automaton + 1; rows = gap_start (width key.automaton) (parent_at key i).rows }

-- the start, and then the systems along the path
abbrev pub AreStages : Key → ℕ → List ℕ → List System → Type 0
AreStages key i path systems =
    (rest : List System)
    × AreParts key.automaton (parent_at key i).loc path (start_of key i) (start_of key i).rows rest
    × (systems ≡ start_of key i ∷ rest)

-- a number that one of the stages forms passes
abbrev pub SomeFormedPasses : List Stage → Type 0
SomeFormedPasses [] = ⊥
SomeFormedPasses (s ∷ ss) = SomePasses (formed_each s.columns s.rows) ⊎ SomeFormedPasses ss

-- a number of a plain stage along the path passes
abbrev pub StagesPass : Key → ℕ → List ℕ → Type 0
StagesPass key i path = SomeFormedPasses (path_stages key.automaton (parent_at key i).loc path (start_of key i).rows)

-- the path has no transition, or this one first and then these
abbrev pub IsSplit : List ℕ → Option (ℕ × List ℕ) → Type 0
IsSplit path None = path ≡ []
IsSplit path (Some p) = path ≡ p.0 ∷ p.1
