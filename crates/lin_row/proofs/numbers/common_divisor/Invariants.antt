use Rattle.std.proofs.Common.{◌≡◌, ◌<◌, ◌^◌, drop}
use Rattle.lin_row.proofs.DivisorLemmas.{shared}
use Rattle.lin_row.proofs.numbers.common_divisor.Given as goal

abbrev pub invariant-loop-c : goal.invariant-loop-c
invariant-loop-c l = (shared l.shared (drop l.c-index l.coef) ≡ shared 0 l.coef) × (l.shared < 2 ^ 127)
