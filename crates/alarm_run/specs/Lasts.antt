-- The last values of a first run: those that are picked from the system of its state.
use Rattle.std.specs.Prelude.{[], List, All}
use Rattle.poly_specs.specs.Fractions.{Fraction}
use Rattle.poly_specs.specs.LowestTerms.{IsLowest}
use Rattle.poly_specs.specs.Pickings.{ArePickedNumbers}
use Rattle.poly_specs.specs.Rows.{Point}
use Rattle.poly_specs.specs.Systems.{System}
use Rattle.gap_runs.specs.Befores.{common_point, LeavingPasses}

-- each number is the pick of the values that the system leaves for its column
pub record ArePickedLast (s : System) (numbers : List Fraction) : Type 0 where
  pub point : Point
  pub lowest_terms : All IsLowest numbers
  pub picked : ArePickedNumbers s.width s.rows [] numbers point

-- finding them passes
abbrev pub LastPasses : System → Type 0
LastPasses s = LeavingPasses s (common_point [])
