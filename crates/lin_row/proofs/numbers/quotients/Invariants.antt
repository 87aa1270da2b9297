use Rattle.std.proofs.Common.{◌≡◌, map, take, int_div}
use Rattle.lin_row.proofs.numbers.quotients.Given as goal

abbrev pub invariant-loop-number : goal.invariant-loop-number
invariant-loop-number l = (l.divided.items ≡ map (λ c. int_div c l.factor) (take l.number-index l.numbers)) × (l.divided.capacity ≡ 14)
