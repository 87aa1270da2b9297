use Rattle.std.specs.Prelude.{ℕ, ◌<◌, slice_index_or}
use Rattle.poly_specs.specs.KeptRows.{IsKeptRow}
use Rattle.poly_specs.specs.Rows.{Row}
use Rattle.fm_eliminate.proofs.systems.see_kept.Given as goal

abbrev pub invariant-loop-row : goal.invariant-loop-row
invariant-loop-row l = (k : ℕ) (d : Row) → k < l.row-index → IsKeptRow (slice_index_or l.rows k d)
