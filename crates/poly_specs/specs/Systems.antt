-- Systems of a width, and what elimination leaves of them.
use Rattle.std.specs.Prelude.{◌≡◌, ◌≢◌, ◌⊎◌, ◌↔◌, ℕ, ◌+◌, ◌-◌, ◌<◌, ◌≤◌, Bool, true, false, IsFalse, List, [], ◌∷◌, map, length, All, pos, neg_ℤ, ◌<ℤ◌, Option, Some, None, slice_index_or}
use Rattle.poly_specs.specs.Lists.{In, IsAmong}
use Rattle.poly_specs.specs.Bits.{SomePasses, NonePasses}
use Rattle.poly_specs.specs.Rows.{Point, Row, coef_at, Holds, AllHold, AllWide, SomeValueHolds, SomeValuesHold}
use Rattle.poly_specs.specs.KeptRows.{IsKeptRow}
use Rattle.poly_specs.specs.Evaluation.{eval_numbers}
use Rattle.poly_specs.specs.Elimination.{eliminated, eliminated_each, columns_down}

-- rows over so many columns
pub record System : Type 0 where
  pub width : ℕ
  pub rows : List Row

-- at most 14 columns; each row has them all, and is one of 128 bits
pub record IsKeptSystem (s : System) : Type 0 where
  pub few : s.width ≤ 14
  pub wide : AllWide s.width s.rows
  pub kept : All IsKeptRow s.rows

-- ---- whether a system holds, row by row

-- the first row decides whose evaluation passes, or that does not hold; else the system holds
abbrev pub IsHeld : List Row → Point → Option Bool → Type 0
IsHeld [] p answer = answer ≡ Some true
IsHeld (r ∷ rows) p answer =
    (SomePasses (eval_numbers r p.num p.den) × (answer ≡ None))
    ⊎ ((NonePasses (eval_numbers r p.num p.den) × (Holds r p → ⊥) × (answer ≡ Some false))
    ⊎ (NonePasses (eval_numbers r p.num p.den) × Holds r p × IsHeld rows p answer))

-- ---- one column

-- no row has a coefficient in column x
abbrev pub AreFreeOf : ℕ → List Row → Type 0
AreFreeOf x rows = All (λ r. coef_at x r ≡ pos 0) rows

-- what is left of rows of this width without column x: it holds exactly where some fraction in the column makes the rows hold,
-- and each row of it is one that plain elimination leaves
pub record IsProjection (width x : ℕ) (rows left : List Row) : Type 0 where
  pub wide : AllWide width left
  pub free : AreFreeOf x left
  pub plain : IsAmong left (eliminated x rows)
  pub same : (p : Point) → pos 0 <ℤ p.den → length p.num ≡ width → AllHold left p ↔ SomeValueHolds x rows p

-- the row with all numbers negated
abbrev pub negated : Row → Row
negated r = record { coef = map neg_ℤ r.coef; cst = neg_ℤ r.cst; strict = r.strict }

-- a closed row with a coefficient in column x stands among the rows, and so does its negation: an equation
pub record IsEquation (x : ℕ) (rows : List Row) (r : Row) : Type 0 where
  pub row : In r rows
  pub opposite : In (negated r) rows
  pub closed : IsFalse r.strict
  pub some_coefficient : coef_at x r ≢ pos 0

-- ---- several columns

-- the columns from a first one on, without which systems are left, and these systems
pub record Levels : Type 0 where
  pub first : ℕ
  pub systems : List System

-- what is left of rows of this width in the columns before c
pub record IsLevel (width c : ℕ) (rows left : List Row) : Type 0 where
  pub wide : AllWide width left
  pub free : (x : ℕ) → c ≤ x → x < width → AreFreeOf x left
  pub plain : IsAmong left (eliminated_each (columns_down c (width - c)) rows)
  pub same : (p : Point) → pos 0 <ℤ p.den → length p.num ≡ width → AllHold left p ↔ SomeValuesHold width c rows p

-- past the last level, an empty system
abbrev pub no_system : System
no_system = record { width = 0; rows = [] }

-- the levels of a system from a first column on: number i is what is left in the columns before `first + i`, and the last is the system
pub record AreLevels (first : ℕ) (s : System) (levels : Levels) : Type 0 where
  pub from_first : levels.first ≡ first
  pub one_for_each : length levels.systems ≡ s.width - first + 1
  pub widths : All (λ t. t.width ≡ s.width) levels.systems
  pub each : (i : ℕ) → first + i ≤ s.width → IsLevel s.width (first + i) s.rows (slice_index_or levels.systems i no_system).rows
  pub whole : slice_index_or levels.systems (s.width - first) no_system ≡ s
