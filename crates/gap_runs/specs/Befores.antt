-- What comes before the end of a leg or a jump: the numbers that are picked for it.
use Rattle.std.specs.Prelude.{◌≡◌, ◌⊎◌, ℕ, ◌+◌, ◌-◌, ◌*◌, List, All, drop, length, pos, slice_index_or}
use Rattle.poly_specs.specs.Bits.{SomePasses}
use Rattle.poly_specs.specs.Denominators.{common_den, common_nums}
use Rattle.poly_specs.specs.Elimination.{formed_each, columns_down}
use Rattle.poly_specs.specs.Fractions.{Fraction, zero_fraction}
use Rattle.poly_specs.specs.LowestTerms.{IsLowest}
use Rattle.poly_specs.specs.Pickings.{ArePickedNumbers}
use Rattle.poly_specs.specs.Rows.{Point, Row, over}
use Rattle.poly_specs.specs.Systems.{System}
use Rattle.column_pick.specs.Picked.{numbers_of, PickingPasses}
use Rattle.run_specs.specs.Automaton.{Automaton, width}
use Rattle.run_specs.specs.Stages.{leg_rows, jump_rows}

-- the system of a leg in location l from this state; columns: the values at the end, the elapsed time there, the length, the values at the start
abbrev pub leg_columns : Automaton → ℕ → List Row → System
leg_columns a l state = record { width = 2 * width a + 2; rows = leg_rows a l state }

-- the system of a jump by transition e from this state; columns: the values after, the elapsed time, the values before
abbrev pub jump_columns : Automaton → ℕ → List Row → System
jump_columns a e state = record { width = 2 * width a + 1; rows = jump_rows a e state }

-- the point of these fractions, over their least common denominator
abbrev pub common_point : List Fraction → Point
common_point xs = over (pos (common_den xs)) (common_nums xs)

-- of the legs that end at the given numbers: the length that is picked, and then the values at the start
pub record IsLegBefore (a : Automaton) (l : ℕ) (state : List Row) (after : Point) (stay : Fraction) (start : Point) : Type 0 where
  pub numbers : List Fraction
  pub point : Point
  pub lowest_terms : All IsLowest numbers
  pub picked : ArePickedNumbers (2 * width a + 2) (leg_rows a l state) (numbers_of after) numbers point
  pub stay_is : stay ≡ slice_index_or numbers (width a + 1) zero_fraction
  pub start_is : start ≡ common_point (drop (width a + 2) numbers)

-- of the jumps that end at the given numbers: the values before that are picked
pub record IsJumpBefore (a : Automaton) (e : ℕ) (state : List Row) (after before : Point) : Type 0 where
  pub numbers : List Fraction
  pub point : Point
  pub lowest_terms : All IsLowest numbers
  pub picked : ArePickedNumbers (2 * width a + 1) (jump_rows a e state) (numbers_of after) numbers point
  pub before_is : before ≡ common_point (drop (width a + 1) numbers)

-- finding the numbers after the first ones of a system passes: eliminating their columns, from the right, or picking them
abbrev pub LeavingPasses : System → Point → Type 0
LeavingPasses s first =
    SomePasses (formed_each (columns_down (length first.num) (s.width - length first.num)) s.rows)
    ⊎ PickingPasses s (numbers_of first)
