use Rattle.std.proofs.Common.{◌≡◌, ◌++◌, take}
use Rattle.run_check.proofs.legs.joined.Given as goal

abbrev pub invariant-loop-number : goal.invariant-loop-number
invariant-loop-number l = (l.joined.items ≡ l.first ++ take l.number-index l.second) × (l.joined.capacity ≡ 14)
