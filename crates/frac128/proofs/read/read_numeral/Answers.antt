use Rattle.std.proofs.Common.{sym, ◌∙◌}
use Rattle.frac128.proofs.DigitLemmas.{numeral_step}
use Rattle.frac128.proofs.read.read_numeral.Goals as goal

pub loop-rest-preserved : goal.loop-rest-preserved
loop-rest-preserved c = numeral_step c.args.bytes.now c.loop-rest.rest.now c.loop-rest.count c.loop-rest.value c.next_value-value.result c.in-len1-up.len_at_least (sym c.is_digit.ensures ∙ c.if-not-is_digit.false) c.next_value-value.ensures c.loop-rest.invariant
