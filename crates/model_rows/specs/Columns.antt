-- The sums of parts by column, and the numbers that they form.
use Rattle.std.specs.Prelude.{ℕ, List, ◌++◌, map, filter, flat_map, Bool, Option, Some, None, ℤ}
use Rattle.poly_specs.specs.Fractions.{Fraction, zero_fraction}
use Rattle.run_specs.specs.Stages.{below}
use Rattle.model_specs.specs.Parts.{Part, is_column, is_constant, column_values, constant_values, total_numbers_from}

-- a part with this column is added to this place: a column, or the constant
abbrev pub is_at : Option ℕ → Option ℕ → Bool
is_at None column = is_constant column
is_at (Some j) column = is_column j column

-- the numbers that are added there, in order
abbrev pub values_at : Option ℕ → List Part → List Fraction
values_at place parts = map (λ p. p.value) (filter (λ p. is_at place p.column) parts)

-- the numbers that the sums of n columns and of the constant form
abbrev pub sums_numbers : ℕ → List Part → List ℤ
sums_numbers n parts =
    flat_map (λ j. total_numbers_from zero_fraction (column_values j parts)) (below n) ++ total_numbers_from zero_fraction (constant_values parts)
