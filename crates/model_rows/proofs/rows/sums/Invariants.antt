use Rattle.std.proofs.Common.{◌≡◌, map}
use Rattle.std.specs.Prelude.{flat_map}
use Rattle.poly_specs.specs.Bits.{NonePasses}
use Rattle.run_specs.specs.Stages.{below}
use Rattle.model_rows.proofs.TotalLemmas.{column_numbers, column_total}
use Rattle.model_rows.proofs.rows.sums.Given as goal

abbrev pub invariant-loop-j : goal.invariant-loop-j
invariant-loop-j l =
    (l.totals.items ≡ map (column_total l.parts) (below l.j))
    × NonePasses (flat_map (column_numbers l.parts) (below l.j))
