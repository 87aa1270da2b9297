use Rattle.std.proofs.Common.{◌≡◌, map, length}
use Rattle.log_specs.specs.LogRows.{cells_of}
use Rattle.log_reader.proofs.CellLemmas.{cells_before}
use Rattle.log_reader.proofs.numbers.cells_of.Given as goal

abbrev pub invariant-loop-rest : goal.invariant-loop-rest
invariant-loop-rest l = cells_before l.cells.items (cells_of (map (λ f. f.now) l.rest)) ≡ cells_of (map (λ f. f.now) l.fn.fields)

abbrev pub decreases-loop-rest : goal.decreases-loop-rest
decreases-loop-rest l = length l.rest
