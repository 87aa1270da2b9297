-- Fractions in lowest terms: each fraction has one such spelling.
use Rattle.std.specs.Prelude.{◌≡◌}
use Rattle.poly_specs.specs.Fractions.{Fraction, IsFraction}
use Rattle.poly_specs.specs.Arithmetic.{lowest}

-- a fraction in lowest terms, over a positive denominator
pub record IsLowest (x : Fraction) : Type 0 where
  pub positive : IsFraction x
  pub lowest_terms : lowest x ≡ x
