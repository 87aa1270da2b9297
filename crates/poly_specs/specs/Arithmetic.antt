-- Lowest terms, and the numbers that sums and products of fractions are formed of.
use Rattle.std.specs.Prelude.{◌≡◌, ◌/◌, List, [], ◌∷◌, ℤ, pos, ◌+ℤ◌, ◌*ℤ◌, ℕ, int_div, unsigned_abs}
use Rattle.poly_specs.specs.Fractions.{Fraction, IsFraction}
use Rattle.poly_specs.specs.Bits.{FitsBits}
use Rattle.poly_specs.specs.Elimination.{gcd}

-- x in lowest terms
abbrev pub lowest : Fraction → Fraction
lowest x = record {
  num = int_div x.num (pos (gcd (unsigned_abs x.num) (unsigned_abs x.den)));
  den = int_div x.den (pos (gcd (unsigned_abs x.num) (unsigned_abs x.den)));
}

-- what the numerator of x is multiplied by, for x + y
abbrev pub left_factor : Fraction → Fraction → ℕ
left_factor x y = unsigned_abs y.den / gcd (unsigned_abs x.den) (unsigned_abs y.den)

-- what the numerator of y is multiplied by
abbrev pub right_factor : Fraction → Fraction → ℕ
right_factor x y = unsigned_abs x.den / gcd (unsigned_abs x.den) (unsigned_abs y.den)

-- x + y, over the least common multiple of their denominators
abbrev pub least_sum : Fraction → Fraction → Fraction
least_sum x y = record {
  num = x.num *ℤ pos (left_factor x y) +ℤ y.num *ℤ pos (right_factor x y);
  den = x.den *ℤ pos (left_factor x y);
}

-- the two products, their sum, and the denominator
abbrev pub sum_numbers : Fraction → Fraction → List ℤ
sum_numbers x y =
    (x.num *ℤ pos (left_factor x y)) ∷ (y.num *ℤ pos (right_factor x y)) ∷ (least_sum x y).num ∷ (least_sum x y).den ∷ []

-- ---- a product

-- the part of x's numerator that y's denominator does not divide out
abbrev pub crossed_num : Fraction → Fraction → ℤ
crossed_num x y = int_div x.num (pos (gcd (unsigned_abs x.num) (unsigned_abs y.den)))

-- the part of x's denominator that y's numerator does not divide out
abbrev pub crossed_den : Fraction → Fraction → ℤ
crossed_den x y = int_div x.den (pos (gcd (unsigned_abs y.num) (unsigned_abs x.den)))

-- the numerator and the denominator of x * y, after each numerator is divided crosswise by what it shares with the other denominator
abbrev pub product_numbers : Fraction → Fraction → List ℤ
product_numbers x y = (crossed_num x y *ℤ crossed_num y x) ∷ (crossed_den x y *ℤ crossed_den y x) ∷ []

-- ---- fractions of 128 bits

-- in lowest terms, over a positive denominator, and neither number passes 128 bits
pub record IsKept (x : Fraction) : Type 0 where
  pub positive : IsFraction x
  pub lowest_terms : lowest x ≡ x
  pub num_fits : FitsBits x.num
  pub den_fits : FitsBits x.den
