-- The numbers of a gap, backwards along its path from where it ends.
use Rattle.std.specs.Prelude.{◌≡◌, ◌⊎◌, ℕ, ◌+◌, ◌-◌, ◌≤◌, List, [], ◌∷◌, ◌++◌, All, drop, length, slice_index_or}
use Rattle.poly_specs.specs.Arithmetic.{lowest, sum_numbers}
use Rattle.poly_specs.specs.Bits.{SomePasses}
use Rattle.poly_specs.specs.Denominators.{common_numbers}
use Rattle.poly_specs.specs.Fractions.{Fraction, IsFraction, difference, opposite, zero_fraction}
use Rattle.poly_specs.specs.LowestTerms.{IsLowest}
use Rattle.poly_specs.specs.Pickings.{ArePickedNumbers}
use Rattle.poly_specs.specs.Rows.{Point, Row}
use Rattle.poly_specs.specs.Systems.{System}
use Rattle.run_specs.specs.Automaton.{Automaton, width}
use Rattle.gap_runs.specs.Befores.{common_point, leg_columns, jump_columns, LeavingPasses}

-- the numbers so far, in the order in which they are picked, and the time that has elapsed at the last of them
pub record BackValue : Type 0 where
  pub numbers : List Fraction
  pub elapsed : Fraction

-- of m variables: the last values, and then the elapsed time
abbrev pub after_of : ℕ → BackValue → List Fraction
after_of m b = drop (length b.numbers - m) b.numbers ++ b.elapsed ∷ []

-- there are values of m variables among the numbers, and these and the elapsed time are fractions
pub record IsBack (m : ℕ) (b : BackValue) : Type 0 where
  pub sized : m ≤ length b.numbers
  pub fractions : All IsFraction b.numbers
  pub elapsed : IsFraction b.elapsed

-- numbers for all columns of the system that begin with the given ones, each further one picked
pub record ArePickedAfter (s : System) (given numbers : List Fraction) : Type 0 where
  pub point : Point
  pub lowest_terms : All IsLowest numbers
  pub picked : ArePickedNumbers s.width s.rows given numbers point

-- back over a leg in location l from this state: its length is picked, and then the values at its start
pub record IsLegBack (a : Automaton) (l : ℕ) (state : List Row) (old new : BackValue) : Type 0 where
  pub numbers : List Fraction
  pub picked : ArePickedAfter (leg_columns a l state) (after_of (width a) old) numbers
  pub more : new.numbers ≡ old.numbers ++ drop (width a + 1) numbers
  pub elapsed : new.elapsed ≡ lowest (difference old.elapsed (slice_index_or numbers (width a + 1) zero_fraction))

-- back over a jump by transition e from this state: the values before it are picked
pub record IsJumpBack (a : Automaton) (e : ℕ) (state : List Row) (old new : BackValue) : Type 0 where
  pub numbers : List Fraction
  pub picked : ArePickedAfter (jump_columns a e state) (after_of (width a) old) numbers
  pub more : new.numbers ≡ old.numbers ++ drop (width a + 1) numbers
  pub elapsed : new.elapsed ≡ old.elapsed

-- writing what is given over its least common denominator passes, or finding the further numbers does
abbrev pub BackPasses : ℕ → System → BackValue → Type 0
BackPasses m s b = SomePasses (common_numbers (after_of m b)) ⊎ LeavingPasses s (common_point (after_of m b))

-- this of a leg, or subtracting the length that is picked from the elapsed time does
abbrev pub LegBackPasses : Automaton → ℕ → List Row → BackValue → Type 0
LegBackPasses a l state b =
    BackPasses (width a) (leg_columns a l state) b
    ⊎ ((numbers : List Fraction) × ArePickedAfter (leg_columns a l state) (after_of (width a) b) numbers
    × SomePasses (sum_numbers b.elapsed (opposite (slice_index_or numbers (width a + 1) zero_fraction))))

abbrev pub JumpBackPasses : Automaton → ℕ → List Row → BackValue → Type 0
JumpBackPasses a e state b = BackPasses (width a) (jump_columns a e state) b
