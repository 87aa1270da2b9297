use Rattle.std.proofs.Common.{◌≡◌, map, take, length}
use Rattle.model_specs.specs.Constraints.{part_of, with_time}
use Rattle.model_rows.proofs.parts.timed_parts_of.Given as goal

abbrev pub invariant-loop-term : goal.invariant-loop-term
invariant-loop-term l = l.parts.items ≡ map (λ t. with_time (length l.vars) (part_of l.vars t)) (take l.term-index l.terms)
