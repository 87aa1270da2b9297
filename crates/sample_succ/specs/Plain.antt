-- Rows beside those that plain elimination leaves.
use Rattle.std.specs.Prelude.{◌≡◌, ◌↔◌, ℕ, ◌+◌, List, [], ◌∷◌, ◌++◌, length, pos, ◌<ℤ◌, Option, Some, None}
use Rattle.poly_specs.specs.Lists.{IsAmong}
use Rattle.poly_specs.specs.Rows.{Point, Row, AllHold, HasPoint}
use Rattle.poly_specs.specs.Systems.{System}
use Rattle.run_specs.specs.Automaton.{width}
use Rattle.run_specs.specs.Keys.{Key}
use Rattle.run_specs.specs.Stages.{Stage, rows_after, at_most}

-- over n columns: the rows are some of the plain ones, and hold where all of these do
pub record IsPlain (n : ℕ) (rows plain : List Row) : Type 0 where
  pub among : IsAmong rows plain
  pub same : (p : Point) → pos 0 <ℤ p.den → length p.num ≡ n → AllHold rows p ↔ AllHold plain p

-- what is left after a stage: nothing where it has no point
abbrev pub IsLeft : Stage → Option System → Type 0
IsLeft s None = HasPoint s.left (rows_after s) → ⊥
IsLeft s (Some left) = (left.width ≡ s.left) × IsPlain s.left left.rows (rows_after s) × HasPoint s.left left.rows

-- over the values and then the elapsed time: the rows, and one that no more has elapsed than the key's gap lasts
abbrev pub in_time : Key → List Row → List Row
in_time key rows = rows ++ at_most (width key.automaton + 1) (width key.automaton) key.gap ∷ []

-- what is left after a stage within a gap: nothing where it has no point in time
abbrev pub IsLeftInTime : Key → Stage → Option System → Type 0
IsLeftInTime key s None = HasPoint s.left (in_time key (rows_after s)) → ⊥
IsLeftInTime key s (Some left) = IsLeft s (Some left)
