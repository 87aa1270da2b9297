use Rattle.std.proofs.Common.{take}
use Rattle.std.specs.Prelude.{All}
use Rattle.poly_specs.specs.Arithmetic.{IsKept}
use Rattle.gap_runs.proofs.commons.see_all_kept.Given as goal

abbrev pub invariant-loop-x : goal.invariant-loop-x
invariant-loop-x l = All IsKept (take l.x-index l.numbers)
