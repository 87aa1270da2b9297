-- Fractions: an integer over a positive integer, in any terms.
use Rattle.std.specs.Prelude.{◌≡◌, List, map, ℤ, pos, neg_ℤ, ◌+ℤ◌, ◌-ℤ◌, ◌*ℤ◌, ◌≤ℤ◌, ◌<ℤ◌}
use Rattle.std.specs.Ordering.{int_cmp}
use Rattle.std.specs.declared.cmp.Ordering.{Ordering}

-- num over den, where den is positive
pub record Fraction : Type 0 where
  pub num : ℤ
  pub den : ℤ

-- the denominator is positive
abbrev pub IsFraction : Fraction → Type 0
IsFraction x = pos 0 <ℤ x.den

-- x = y
abbrev pub SameFraction : Fraction → Fraction → Type 0
SameFraction x y = x.num *ℤ y.den ≡ y.num *ℤ x.den

-- x ≤ y
abbrev pub AtMost : Fraction → Fraction → Type 0
AtMost x y = (x.num *ℤ y.den) ≤ℤ (y.num *ℤ x.den)

-- x < y
abbrev pub Below : Fraction → Fraction → Type 0
Below x y = (x.num *ℤ y.den) <ℤ (y.num *ℤ x.den)

-- 0
abbrev pub zero_fraction : Fraction
zero_fraction = record { num = pos 0; den = pos 1 }

-- x + y
abbrev pub sum_of : Fraction → Fraction → Fraction
sum_of x y = record { num = x.num *ℤ y.den +ℤ y.num *ℤ x.den; den = x.den *ℤ y.den }

-- x * y
abbrev pub product_of : Fraction → Fraction → Fraction
product_of x y = record { num = x.num *ℤ y.num; den = x.den *ℤ y.den }

-- the order of x and y, over positive denominators
abbrev pub order_of : Fraction → Fraction → Ordering
order_of x y = int_cmp (x.num *ℤ y.den) (y.num *ℤ x.den)

-- x - y
abbrev pub difference : Fraction → Fraction → Fraction
difference x y = record { num = x.num *ℤ y.den -ℤ y.num *ℤ x.den; den = x.den *ℤ y.den }

-- x and y differ by at most w
abbrev pub DifferAtMost : Fraction → Fraction → Fraction → Type 0
DifferAtMost w x y = AtMost (difference x y) w × AtMost (difference y x) w

-- - x
abbrev pub opposite : Fraction → Fraction
opposite x = record { num = neg_ℤ x.num; den = x.den }

-- numbers over this denominator, as fractions
abbrev pub fractions : ℤ → List ℤ → List Fraction
fractions d ns = map (λ n. record { num = n; den = d }) ns
