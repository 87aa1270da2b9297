use Rattle.std.proofs.Common.{◌≡◌}
use Rattle.lin_row.proofs.ColumnLemmas.{PutSoFar}
use Rattle.lin_row.proofs.columns.put.Given as goal

abbrev pub invariant-loop-i : goal.invariant-loop-i
invariant-loop-i l = PutSoFar l.to l.numbers l.width l.i l.placed.items × (l.placed.capacity ≡ 14)
