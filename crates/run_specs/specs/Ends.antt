-- Where the legs, the jumps and the sample of a gap lead from a state.
use Rattle.std.specs.Prelude.{◌≡◌, ℕ, List, [], ◌∷◌, ◌++◌, length, Option, ℤ, pos, ◌-ℤ◌, ◌<ℤ◌}
use Rattle.poly_specs.specs.Fractions.{Fraction, SameFraction}
use Rattle.poly_specs.specs.Rows.{Point, Row, over, SamePoint, AllHold}
use Rattle.run_specs.specs.Automaton.{Automaton, width, location_at}
use Rattle.run_specs.specs.Logs.{IsPassing}
use Rattle.run_specs.specs.Runs.{IsLeg, IsJump}

-- a leg in location l from p to q in time t starts in the state and ends, with the elapsed time, at the given point
pub record EndsLeg (a : Automaton) (l : ℕ) (state : List Row) (end : Point) (d : ℤ) (q : List ℤ) (elapsed t : ℤ) (p : List ℤ) : Type 0 where
  pub positive : pos 0 <ℤ d
  pub sized : length q ≡ width a
  pub starts : AllHold state (over d (p ++ (elapsed -ℤ t) ∷ []))
  pub leg : IsLeg (location_at a l) d p t q
  pub ends : SamePoint end (over d (q ++ elapsed ∷ []))

-- some leg from the state ends there
abbrev pub SomeLegEnds : Automaton → ℕ → List Row → Point → Type 0
SomeLegEnds a l state end = (d : ℤ) × (q : List ℤ) × (elapsed : ℤ) × (t : ℤ) × (p : List ℤ) × EndsLeg a l state end d q elapsed t p

-- the same of a jump by transition e from p to q
pub record EndsJump (a : Automaton) (e : ℕ) (state : List Row) (end : Point) (d : ℤ) (q : List ℤ) (elapsed : ℤ) (p : List ℤ) : Type 0 where
  pub positive : pos 0 <ℤ d
  pub sized : length q ≡ width a
  pub starts : AllHold state (over d (p ++ elapsed ∷ []))
  pub jump : IsJump a e d p q
  pub ends : SamePoint end (over d (q ++ elapsed ∷ []))

-- some jump from the state ends there
abbrev pub SomeJumpEnds : Automaton → ℕ → List Row → Point → Type 0
SomeJumpEnds a e state end = (d : ℤ) × (q : List ℤ) × (elapsed : ℤ) × (p : List ℤ) × EndsJump a e state end d q elapsed p

-- q is a point of the state at which the gap's length has elapsed, it passes the sample, and it is the given point
pub record EndsSample (a : Automaton) (duration : Fraction) (cells : List (Option Fraction)) (state : List Row) (end : Point) (d : ℤ) (q : List ℤ) (elapsed : ℤ) : Type 0 where
  pub positive : pos 0 <ℤ d
  pub sized : length q ≡ width a
  pub starts : AllHold state (over d (q ++ elapsed ∷ []))
  pub lasts : SameFraction (record { num = elapsed; den = d }) duration
  pub passes : IsPassing a cells (over d q)
  pub ends : SamePoint end (over d q)

-- some such point is the given one
abbrev pub SomeSampleEnds : Automaton → Fraction → List (Option Fraction) → List Row → Point → Type 0
SomeSampleEnds a duration cells state end = (d : ℤ) × (q : List ℤ) × (elapsed : ℤ) × EndsSample a duration cells state end d q elapsed
