-- The numbers that are fixed in the first columns, as a point.
use Rattle.std.specs.Prelude.{ℕ, ◌-◌, List, ◌++◌, length, replicate, ℤ, pos}
use Rattle.poly_specs.specs.Denominators.{common_den, common_nums}
use Rattle.poly_specs.specs.Fractions.{Fraction}
use Rattle.poly_specs.specs.Rows.{Point, over}

-- the numbers, with 0 in the columns after them
abbrev pub padded : ℕ → List ℤ → List ℤ
padded width ns = ns ++ replicate (width - length ns) (pos 0)

-- the point that has these fractions in its first columns, over their least common denominator, and 0 in the others
abbrev pub fixed_point : ℕ → List Fraction → Point
fixed_point width xs = over (pos (common_den xs)) (padded width (common_nums xs))
