use Rattle.std.proofs.Common.{◌≡◌, map, take, neg_ℤ}
use Rattle.model_rows.proofs.rows.opposites.Given as goal

abbrev pub invariant-loop-number : goal.invariant-loop-number
invariant-loop-number l = (l.turned.items ≡ map neg_ℤ (take l.number-index l.numbers)) × (l.turned.capacity ≡ 14)
