-- The values that a system leaves for the column after some fixed numbers, and when picking one of them passes 128 bits.
use Rattle.std.specs.Prelude.{◌⊎◌, ℕ, ◌+◌, ◌-◌, ◌<◌, List, length, pos, slice_index_or}
use Rattle.poly_specs.specs.Bits.{SomePasses}
use Rattle.poly_specs.specs.Bounds.{IsPoint}
use Rattle.poly_specs.specs.Denominators.{common_den, common_nums, common_numbers}
use Rattle.poly_specs.specs.Elimination.{eliminated_each, columns_down}
use Rattle.poly_specs.specs.Evaluation.{eval_numbers}
use Rattle.poly_specs.specs.Fractions.{Fraction, SameFraction, zero_fraction}
use Rattle.poly_specs.specs.Lists.{In}
use Rattle.poly_specs.specs.Rows.{Point, Row, over, coordinate}
use Rattle.poly_specs.specs.Systems.{System, Levels, no_system}
use Rattle.column_pick.specs.RangePicks.{FormingPasses}

-- the whole system: the last of its levels
abbrev pub whole_of : Levels → System
whole_of l = slice_index_or l.systems (length l.systems - 1) no_system

-- q is a point of the system that has the given numbers in the first columns
pub record HasFirst (s : System) (given : List Fraction) (q : Point) : Type 0 where
  pub point : IsPoint s.width s.rows q
  pub agrees : (j : ℕ) → j < length given → SameFraction (coordinate j q) (slice_index_or given j zero_fraction)

-- some such point has v in the next column
abbrev pub IsNext : System → List Fraction → Fraction → Type 0
IsNext s given v = (q : Point) × HasFirst s given q × SameFraction (coordinate (length given) q) v

-- the plain rows in the next column and those before it
abbrev pub next_rows : System → List Fraction → List Row
next_rows s given = eliminated_each (columns_down (length given + 1) (s.width - (length given + 1))) s.rows

-- evaluating one of these rows at the point passes
abbrev pub AnyPasses : Point → List Row → Type 0
AnyPasses q rows = (r : Row) × In r rows × SomePasses (eval_numbers r q.num q.den)

-- evaluating one of the next column's rows passes at the given numbers
abbrev pub RowPasses : System → List Fraction → Type 0
RowPasses s given = AnyPasses (over (pos (common_den given)) (common_nums given)) (next_rows s given)

-- picking the next number passes: writing the given ones over one denominator, evaluating a row at them, or forming the pick
abbrev pub NextPasses : System → List Fraction → Type 0
NextPasses s given = SomePasses (common_numbers given) ⊎ (RowPasses s given ⊎ FormingPasses (IsNext s given))
