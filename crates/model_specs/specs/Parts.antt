-- Sums of numbers by column: how a row's coefficients are added, and the numbers that this forms.
use Rattle.std.specs.Prelude.{ℕ, ◌==◌, List, [], ◌∷◌, ◌++◌, map, filter, flat_map, Bool, true, false, pos, ℤ, Option, Some, None}
use Rattle.poly_specs.specs.Fractions.{Fraction, zero_fraction, sum_of, opposite}
use Rattle.poly_specs.specs.Arithmetic.{lowest, sum_numbers}
use Rattle.poly_specs.specs.Denominators.{common_nums, common_numbers}
use Rattle.poly_specs.specs.Rows.{Row}
use Rattle.poly_specs.specs.Elimination.{divided}
use Rattle.run_specs.specs.Stages.{below}

-- a number that is added to a column, or, where there is no column, to the constant
pub record Part : Type 0 where
  pub column : Option ℕ
  pub value : Fraction

abbrev pub in_column : ℕ → Fraction → Part
in_column j v = record { column = Some j; value = v }

-- taken away instead of added
abbrev pub negative : Part → Part
negative p = record p { value = opposite p.value }

-- ---- sums, in order

-- the sum, in lowest terms
abbrev pub total_from : Fraction → List Fraction → Fraction
total_from x [] = x
total_from x (y ∷ ys) = total_from (lowest (sum_of x y)) ys

-- the numbers that adding them one after the other forms
abbrev pub total_numbers_from : Fraction → List Fraction → List ℤ
total_numbers_from x [] = []
total_numbers_from x (y ∷ ys) = sum_numbers x y ++ total_numbers_from (lowest (sum_of x y)) ys

-- ---- columns

abbrev pub is_column : ℕ → Option ℕ → Bool
is_column j None = false
is_column j (Some i) = i == j

abbrev pub is_constant : Option ℕ → Bool
is_constant None = true
is_constant (Some i) = false

-- the numbers that are added to column j, in order
abbrev pub column_values : ℕ → List Part → List Fraction
column_values j parts = map (λ p. p.value) (filter (λ p. is_column j p.column) parts)

-- those that are added to the constant
abbrev pub constant_values : List Part → List Fraction
constant_values parts = map (λ p. p.value) (filter (λ p. is_constant p.column) parts)

-- the sums of n columns, and that of the constant last
abbrev pub sums : ℕ → List Part → List Fraction
sums n parts =
    map (λ j. total_from zero_fraction (column_values j parts)) (below n) ++ total_from zero_fraction (constant_values parts) ∷ []

-- ---- the row of parts

-- the numbers but for the last, and the last
abbrev pub all_but_last : List ℤ → List ℤ
all_but_last [] = []
all_but_last (z ∷ []) = []
all_but_last (z ∷ y ∷ zs) = z ∷ all_but_last (y ∷ zs)

abbrev pub last_of : List ℤ → ℤ
last_of [] = pos 0
last_of (z ∷ []) = z
last_of (z ∷ y ∷ zs) = last_of (y ∷ zs)

-- numbers of which the last is the constant, as a row
abbrev pub row_over : Bool → List ℤ → Row
row_over strict zs = record { coef = all_but_last zs; cst = last_of zs; strict = strict }

-- the row of n columns that says that the sum of the parts is at most 0, or below 0 where strict: all sums multiplied by the
-- least common multiple of their denominators, and divided
abbrev pub row_of_parts : ℕ → Bool → List Part → Row
row_of_parts n strict parts = divided (row_over strict (common_nums (sums n parts)))

-- the numbers that forming it takes: those of the sums, the least common multiple, and the products with it
abbrev pub part_numbers : ℕ → List Part → List ℤ
part_numbers n parts =
    flat_map (λ j. total_numbers_from zero_fraction (column_values j parts)) (below n)
    ++ total_numbers_from zero_fraction (constant_values parts)
    ++ common_numbers (sums n parts)
