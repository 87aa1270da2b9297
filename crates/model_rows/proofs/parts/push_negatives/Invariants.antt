use Rattle.std.proofs.Common.{◌≡◌, ◌++◌, map, take}
use Rattle.model_specs.specs.Parts.{negative}
use Rattle.model_rows.proofs.parts.push_negatives.Given as goal

abbrev pub invariant-loop-part : goal.invariant-loop-part
invariant-loop-part l = l.sum.items ≡ l.initial.sum.items ++ map negative (take l.part-index l.parts)
