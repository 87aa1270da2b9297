-- The point that is picked from the levels of a system, and when picking it passes 128 bits.
use Rattle.std.specs.Prelude.{◌≡◌, ◌≤◌, List, All, map, length, pos}
use Rattle.poly_specs.specs.Arithmetic.{lowest}
use Rattle.poly_specs.specs.Denominators.{common_den, common_nums}
use Rattle.poly_specs.specs.Fractions.{Fraction, IsFraction, fractions}
use Rattle.poly_specs.specs.LowestTerms.{IsLowest}
use Rattle.poly_specs.specs.Pickings.{ArePickedNumbers, PickPasses}
use Rattle.poly_specs.specs.Rows.{Point}
use Rattle.poly_specs.specs.Systems.{System}
use Rattle.column_pick.specs.Nexts.{HasFirst}

-- the numbers of a point, in lowest terms
abbrev pub numbers_of : Point → List Fraction
numbers_of p = map lowest (fractions p.den p.num)

-- p has the given numbers and those that are picked after them, all over their least common denominator
pub record IsPickedPoint (s : System) (given : List Fraction) (p : Point) : Type 0 where
  pub numbers : List Fraction
  pub lowest_terms : All IsLowest numbers
  pub picked : ArePickedNumbers s.width s.rows given numbers p
  pub den : p.den ≡ pos (common_den numbers)
  pub num : p.num ≡ common_nums numbers

-- picking numbers after the given ones passes, at the numbers that are picked
pub record PickingPasses (s : System) (given : List Fraction) : Type 0 where
  pub numbers : List Fraction
  pub point : Point
  pub picked : ArePickedNumbers s.width s.rows given numbers point
  pub passes : PickPasses (record { rows = s.rows; first = length given; numbers = numbers })

-- ---- on the way

-- numbers for some more columns: the given ones and those that are picked next, so that all that are picked after them are picked after the given ones
pub record ArePickedSoFar (s : System) (given numbers : List Fraction) : Type 0 where
  pub longer : length given ≤ length numbers
  pub positive : All IsFraction numbers
  pub some : (q : Point) × HasFirst s numbers q
  pub goes_on : (all : List Fraction) (p : Point) → ArePickedNumbers s.width s.rows numbers all p → ArePickedNumbers s.width s.rows given all p
