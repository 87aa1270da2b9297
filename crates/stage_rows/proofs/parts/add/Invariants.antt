use Rattle.std.proofs.Common.{◌≡◌, ◌++◌, take}
use Rattle.stage_rows.proofs.parts.add.Given as goal

abbrev pub invariant-loop-number : goal.invariant-loop-number
invariant-loop-number l = (l.numbers.items ≡ l.initial.numbers.items ++ take l.number-index l.more) × (l.numbers.capacity ≡ 14)
