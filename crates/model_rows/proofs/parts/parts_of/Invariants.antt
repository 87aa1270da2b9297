use Rattle.std.proofs.Common.{◌≡◌, map, take}
use Rattle.model_specs.specs.Constraints.{part_of}
use Rattle.model_rows.proofs.parts.parts_of.Given as goal

abbrev pub invariant-loop-term : goal.invariant-loop-term
invariant-loop-term l = l.parts.items ≡ map (part_of l.vars) (take l.term-index l.terms)
