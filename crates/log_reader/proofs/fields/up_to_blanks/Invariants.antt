use Rattle.std.proofs.Common.{◌≡◌, length}
use Rattle.log_specs.specs.Fields.{up_to_blanks}
use Rattle.log_reader.proofs.fields.up_to_blanks.Given as goal

abbrev pub invariant-loop-last : goal.invariant-loop-last
invariant-loop-last l = up_to_blanks l.left ≡ up_to_blanks l.fn.field

abbrev pub decreases-loop-last : goal.decreases-loop-last
decreases-loop-last l = length l.left
