-- Fractions on the way to lowest terms.
use Rattle.std.specs.Prelude.{◌≡◌, ℤ, pos, ◌<ℤ◌}
use Rattle.poly_specs.specs.Fractions.{Fraction}
use Rattle.poly_specs.specs.Bits.{FitsBits}
use Rattle.poly_specs.specs.Arithmetic.{lowest}

-- num / den, which need not be in lowest terms, is x, and `Frac::make` takes the two
pub record Makes (num den : ℤ) (x : Fraction) : Type 0 where
  pub positive : pos 0 <ℤ den
  pub kept : FitsBits num
  pub same : lowest (record { num = num; den = den }) ≡ lowest x
