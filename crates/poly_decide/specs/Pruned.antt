-- Systems with fewer rows and the same points.
use Rattle.std.specs.Prelude.{◌≡◌, ◌≢◌, ◌⊎◌, ℕ, ◌<◌, ◌≤◌, List, [], ◌∷◌, length, slice_index_or}
use Rattle.poly_specs.specs.Bounds.{Includes}
use Rattle.poly_specs.specs.Columns.{IsDominated}
use Rattle.poly_specs.specs.Rows.{Row}
use Rattle.poly_specs.specs.Systems.{System, IsLevel}

-- some of the items of the second list, in their order
abbrev pub IsSublist : {A : Type 0} → List A → List A → Type 0
IsSublist [] ys = Unit
IsSublist (x ∷ xs) [] = ⊥
IsSublist (x ∷ xs) (y ∷ ys) = ((x ≡ y) × IsSublist xs ys) ⊎ IsSublist (x ∷ xs) ys

-- some of the rows, in their order: they hold at no other point of n columns
pub record IsThinned (n : ℕ) (rows left : List Row) : Type 0 where
  pub some : IsSublist left rows
  pub enough : Includes n rows left

-- a system of some of the rows, with the same points
pub record IsPruned (s t : System) : Type 0 where
  pub same_width : t.width ≡ s.width
  pub thinned : IsThinned s.width s.rows t.rows

-- of two rows at different places none dominates the other
abbrev pub AreUndominated : List Row → Type 0
AreUndominated rows = (i j : ℕ) (d : Row) → i < length rows → j < length rows → i ≢ j → IsDominated (slice_index_or rows i d) (slice_index_or rows j d) → ⊥

-- so for the rows from a place on: none at any other place dominates them
abbrev pub AreUndominatedFrom : ℕ → List Row → Type 0
AreUndominatedFrom first rows =
    (i j : ℕ) (d : Row) → first ≤ i → i < length rows → j < length rows → i ≢ j → IsDominated (slice_index_or rows i d) (slice_index_or rows j d) → ⊥

-- what is left of a system in the columns before c, with zeros in the others
pub record IsLevelOf (s : System) (c : ℕ) (left : System) : Type 0 where
  pub same_width : left.width ≡ s.width
  pub level : IsLevel s.width c s.rows left.rows
