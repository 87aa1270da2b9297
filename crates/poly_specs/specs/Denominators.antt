-- Fractions over their least common denominator.
use Rattle.std.specs.Prelude.{ℕ, ◌*◌, ◌/◌, List, ◌∷◌, map, fold, ℤ, pos, ◌*ℤ◌, int_div, unsigned_abs}
use Rattle.poly_specs.specs.Fractions.{Fraction}
use Rattle.poly_specs.specs.Elimination.{gcd}
use Rattle.poly_specs.specs.Arithmetic.{lowest}

-- the least common multiple
abbrev pub lcm : ℕ → ℕ → ℕ
lcm a b = a * (b / gcd a b)

-- the least denominator that serves all these fractions
abbrev pub common_den : List Fraction → ℕ
common_den xs = fold (λ d x. lcm d (unsigned_abs (lowest x).den)) 1 xs

-- the numerator of x over this denominator
abbrev pub num_over : ℕ → Fraction → ℤ
num_over d x = (lowest x).num *ℤ int_div (pos d) (lowest x).den

-- the numerators over the least common denominator
abbrev pub common_nums : List Fraction → List ℤ
common_nums xs = map (num_over (common_den xs)) xs

-- the least common denominator, and the numerators over it
abbrev pub common_numbers : List Fraction → List ℤ
common_numbers xs = pos (common_den xs) ∷ common_nums xs
