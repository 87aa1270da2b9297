-- What is left of rows where those that say nothing more are dropped.
use Rattle.std.specs.Prelude.{◌≡◌, ◌⊎◌, ℕ, ◌<◌, ◌==◌, ◌&&◌, ◌||◌, not, if◌then◌else◌, Bool, IsFalse, List, map, length, ℤ, pos, ◌<ℤ◌, int_lt, unsigned_abs, slice_index_or}
use Rattle.std.specs.List.{list_all}
use Rattle.poly_specs.specs.Columns.{IsDominated}
use Rattle.poly_specs.specs.Lists.{In, IsAmong}
use Rattle.poly_specs.specs.Rows.{Point, Row, coef_at, AllHold}
use Rattle.poly_specs.specs.Elimination.{combination, uppers}
use Rattle.poly_specs.specs.Systems.{negated}

-- the second rows are among the first, and where they hold, the first do
pub record IsLeft (rows left : List Row) : Type 0 where
  pub among : IsAmong left rows
  pub enough : (p : Point) → pos 0 <ℤ p.den → AllHold left p → AllHold rows p

-- one of the two rows dominates the other: they have the same coefficients
abbrev pub AreAlike : Row → Row → Type 0
AreAlike r s = IsDominated r s ⊎ IsDominated s r

-- at this place stands a row with the same coefficients
pub record IsAlikeAt (rows : List Row) (place : ℕ) (r : Row) : Type 0 where
  pub within : place < length rows
  pub alike : AreAlike r (slice_index_or rows place r)

-- the number is 0
abbrev pub is_zero : ℤ → Bool
is_zero z = unsigned_abs z == 0

-- the row always holds: it has no coefficient, and its constant is below 0, or 0 where it is closed
abbrev pub always_holds : Row → Bool
always_holds r = list_all is_zero r.coef && (int_lt r.cst (pos 0) || (is_zero r.cst && not r.strict))

-- the row does not always hold
abbrev pub is_needed : Row → Bool
is_needed r = not (always_holds r)

-- the row itself where it is without x, else its combination with one of a lower and an upper row
abbrev pub replaced : ℕ → Row → Row → Row → Row
replaced x lower upper r =
    if is_zero (coef_at x r) then r else if int_lt (coef_at x r) (pos 0) then combination x r upper else combination x lower r

-- a closed lower row and its negation stand among the rows: they fix the value of column x
pub record IsPivot (x : ℕ) (rows : List Row) (lower upper : Row) : Type 0 where
  pub lower_in : In lower rows
  pub upper_in : In upper rows
  pub closed : IsFalse lower.strict
  pub below : coef_at x lower <ℤ pos 0
  pub opposite : upper ≡ negated lower

-- the combinations of a lower row with the upper ones
abbrev pub combinations : ℕ → List Row → Row → List Row
combinations x rows lower = map (combination x lower) (uppers x rows)
