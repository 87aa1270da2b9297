-- Rows and points of 128 bits.
use Rattle.std.specs.Prelude.{◌≡◌, ◌≤◌, All, length, pos, ◌<ℤ◌}
use Rattle.poly_specs.specs.Bits.{FitsBits}
use Rattle.poly_specs.specs.Elimination.{divided}
use Rattle.poly_specs.specs.Rows.{Point, Row}

-- at most 14 columns, its numbers without a common divisor unless all are 0, and none of them passes 128 bits
pub record IsKeptRow (r : Row) : Type 0 where
  pub few : length r.coef ≤ 14
  pub lowest_terms : divided r ≡ r
  pub coef_fits : All FitsBits r.coef
  pub cst_fits : FitsBits r.cst

-- a positive denominator, and no number passes 128 bits
pub record IsKeptPoint (p : Point) : Type 0 where
  pub positive : pos 0 <ℤ p.den
  pub num_fits : All FitsBits p.num
  pub den_fits : FitsBits p.den
