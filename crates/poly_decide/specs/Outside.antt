-- Whether a row leaves out a point of a system, where that is shown.
use Rattle.std.specs.Prelude.{ℕ, List, map, neg_ℤ, not, ⊤}
use Rattle.poly_specs.specs.Bounds.{IsPoint, Entails}
use Rattle.poly_specs.specs.Rows.{Point, Row, Holds}
use Rattle.point_hints.specs.declared.Shown.{Shown}
use Rattle.point_hints.specs.declared.Shown.TheVariants as shown

-- the row that holds exactly where r does not
abbrev pub opposite_row : Row → Row
opposite_row r = record { coef = map neg_ℤ r.coef; cst = neg_ℤ r.cst; strict = not r.strict }

-- a point of the system where the row does not hold
abbrev pub IsLeftOut : ℕ → List Row → Row → Type 0
IsLeftOut n rows r = (p : Point) × IsPoint n rows p × (Holds r p → ⊥)

-- what is shown of the points that the row leaves out: there is none, or there is one
abbrev pub IsShownOutside : ℕ → List Row → Row → Shown → Type 0
IsShownOutside n rows r shown.Empty = Entails n rows r
IsShownOutside n rows r shown.Inhabited = IsLeftOut n rows r
IsShownOutside n rows r shown.Nothing = ⊤
