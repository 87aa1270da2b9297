use Rattle.std.proofs.Common.{◌≡◌, length}
use Rattle.log_specs.specs.Fields.{after_blanks}
use Rattle.log_reader.proofs.fields.after_blanks.Given as goal

abbrev pub invariant-loop-first : goal.invariant-loop-first
invariant-loop-first l = after_blanks l.left ≡ after_blanks l.fn.field

abbrev pub decreases-loop-first : goal.decreases-loop-first
decreases-loop-first l = length l.left
