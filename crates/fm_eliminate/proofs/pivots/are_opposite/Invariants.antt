use Rattle.std.proofs.Common.{◌≡◌, map, neg_ℤ, take}
use Rattle.fm_eliminate.proofs.pivots.are_opposite.Given as goal

abbrev pub invariant-loop-i : goal.invariant-loop-i
invariant-loop-i l = take l.i l.b ≡ map neg_ℤ (take l.i l.a)
