-- Non-negative multiples of rows that add up to a row that cannot hold.
use Rattle.std.specs.Prelude.{◌≡◌, ℕ, ◌<◌, Bool, false, ◌&&◌, ◌||◌, List, [], ◌∷◌, map, All, ℤ, pos, ◌≤ℤ◌, int_lt}
use Rattle.poly_specs.specs.Lists.{dot}
use Rattle.poly_specs.specs.Rows.{Row, coef_at, Allows}

-- the coefficient in column x of the sum: each row is taken as many times as its factor says
abbrev pub column_sum : ℕ → List ℤ → List Row → ℤ
column_sum x factors rows = dot factors (map (coef_at x) rows)

-- the constant of the sum
abbrev pub constant_sum : List ℤ → List Row → ℤ
constant_sum factors rows = dot factors (map (λ r. r.cst) rows)

-- the row is strict, and its factor above 0
abbrev pub is_strict_part : ℤ → Row → Bool
is_strict_part factor r = int_lt (pos 0) factor && r.strict

-- the sum is strict: some strict row has a factor above 0
abbrev pub some_strict : List ℤ → List Row → Bool
some_strict [] rows = false
some_strict (factor ∷ factors) [] = false
some_strict (factor ∷ factors) (r ∷ rows) = is_strict_part factor r || some_strict factors rows

-- no factor is negative, the sum has no coefficient in so many columns, and its constant is not allowed
pub record IsRefuted (width : ℕ) (factors : List ℤ) (rows : List Row) : Type 0 where
  pub non_negative : All (λ factor. pos 0 ≤ℤ factor) factors
  pub no_coefficient : (x : ℕ) → x < width → column_sum x factors rows ≡ pos 0
  pub not_allowed : Allows (some_strict factors rows) (constant_sum factors rows) → ⊥
