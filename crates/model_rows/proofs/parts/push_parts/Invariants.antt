use Rattle.std.proofs.Common.{◌≡◌, ◌++◌, take}
use Rattle.model_rows.proofs.parts.push_parts.Given as goal

abbrev pub invariant-loop-part : goal.invariant-loop-part
invariant-loop-part l = l.sum.items ≡ l.initial.sum.items ++ take l.part-index l.parts
