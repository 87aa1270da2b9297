use Rattle.std.proofs.Common.{◌≡◌, take}
use Rattle.poly_specs.specs.Bits.{NonePasses}
use Rattle.model_rows.proofs.TotalLemmas.{total_at, numbers_at}
use Rattle.model_rows.proofs.rows.total.Given as goal

abbrev pub invariant-loop-part : goal.invariant-loop-part
invariant-loop-part l =
    (l.sum ≡ total_at l.place (take l.part-index l.parts)) × NonePasses (numbers_at l.place (take l.part-index l.parts))
