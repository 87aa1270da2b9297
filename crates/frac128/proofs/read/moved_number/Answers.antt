use Rattle.std.proofs.Common.{sym, ◌∙◌}
use Rattle.frac128.proofs.DecimalLemmas.{moved_left, moved_right, moved_long}
use Rattle.frac128.proofs.read.moved_number.Goals as goal

pub returns-in_default : goal.returns-in_default
returns-in_default c d h = sym (moved_long c.args.is_negative d c.args.digits c.args.exponent h c.in_default.is)

pub returns-then-exponent : goal.returns-then-exponent
returns-then-exponent c d h =
    c.scaled_number.ensures ∙ moved_left c.args.is_negative d c.args.digits c.in-Some.kept c.args.exponent h c.in-Some.is c.if-exponent.true

pub returns-else-exponent : goal.returns-else-exponent
returns-else-exponent c d h =
    c.scaled_number-else-exponent.ensures ∙ moved_right c.args.is_negative d c.args.digits c.in-Some.kept c.args.exponent h c.in-Some.is c.if-exponent.false
