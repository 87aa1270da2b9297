use Rattle.std.proofs.Common.{◌≡◌, ◌∷◌, take}
use Rattle.poly_decide.proofs.sums.in_front.Given as goal

abbrev pub invariant-loop-number : goal.invariant-loop-number
invariant-loop-number l = (l.all.items ≡ l.first ∷ take l.number-index l.numbers) × (l.all.capacity ≡ 14)
