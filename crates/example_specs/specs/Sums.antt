-- Small sets and systems whose picks, bounds and eliminations are known.
use Rattle.std.specs.Prelude.{List, [], ◌∷◌, pos, negsuc}
use Rattle.poly_specs.specs.Fractions.{Fraction, AtMost, Below, zero_fraction}
use Rattle.poly_specs.specs.Rows.{Row}
use Rattle.example_specs.specs.Literals.{fraction, whole, row}

-- 0 < v < 1
abbrev pub IsInside : Fraction → Type 0
IsInside v = Below zero_fraction v × Below v (whole 1)

-- 0 < v ≤ 1/3
abbrev pub IsUpToThird : Fraction → Type 0
IsUpToThird v = Below zero_fraction v × AtMost v (fraction 1 3)

-- the sum x
abbrev pub only_x : Row
only_x = row (pos 1 ∷ []) (pos 0)

-- the sum x + y
abbrev pub x_and_y : Row
x_and_y = row (pos 1 ∷ pos 1 ∷ []) (pos 0)

-- x >= 0, y >= 0, x + 2 * y <= 2
abbrev pub triangle : List Row
triangle = row (negsuc 0 ∷ pos 0 ∷ []) (pos 0) ∷ row (pos 0 ∷ negsuc 0 ∷ []) (pos 0) ∷ row (pos 1 ∷ pos 2 ∷ []) (negsuc 1) ∷ []

-- - 2 * x + y + 1 <= 0
abbrev pub from_below : Row
from_below = row (negsuc 1 ∷ pos 1 ∷ []) (pos 1)

-- x - 2 <= 0
abbrev pub from_above : Row
from_above = row (pos 1 ∷ pos 0 ∷ []) (negsuc 1)
