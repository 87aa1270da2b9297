use Rattle.std.proofs.Common.{◌≡◌, ◌++◌, map, length}
use Rattle.log_reader.specs.Commas.{between_commas, trimmed}
use Rattle.log_reader.proofs.fields.fields_between.Given as goal

abbrev pub invariant-loop-at : goal.invariant-loop-at
invariant-loop-at l = map (λ f. f.now) l.found.items ++ trimmed (between_commas l.rest) ≡ trimmed (between_commas l.fn.line)

abbrev pub decreases-loop-at : goal.decreases-loop-at
decreases-loop-at l = length l.rest
