use Rattle.std.proofs.Common.{◌≡◌, ◌++◌, replicate, pos}
use Rattle.column_pick.proofs.common.push_zeros.Given as goal

abbrev pub invariant-loop : goal.invariant-loop
invariant-loop l = l.nums.items ≡ l.fn.nums.items ++ replicate l.counter (pos 0)
