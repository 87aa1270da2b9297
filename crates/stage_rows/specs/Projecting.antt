-- The stage that leaves a system in its first columns.
use Rattle.std.specs.Prelude.{ℕ, ◌-◌, []}
use Rattle.poly_specs.specs.Elimination.{columns_down}
use Rattle.poly_specs.specs.Systems.{System}
use Rattle.run_specs.specs.Stages.{Stage}

-- its columns from the first of the others on are eliminated, from the right
abbrev pub projecting : ℕ → System → Stage
projecting first s = record {
  rows = s.rows;
  columns = columns_down first (s.width - first);
  again = [];
  left = first;
  sums = [];
}
