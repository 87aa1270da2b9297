use Rattle.std.specs.Prelude.{IfSome}
use Rattle.std.specs.List.{AllWithin}
use Rattle.poly_specs.specs.LowestTerms.{IsLowest}
use Rattle.gap_keys.proofs.keys.show_cells.Given as goal

abbrev pub invariant-loop-cell : goal.invariant-loop-cell
invariant-loop-cell l = AllWithin (λ cell. IfSome cell IsLowest) l.cells 0 l.cell-index
