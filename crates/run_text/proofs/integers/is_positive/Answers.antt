use Rattle.std.proofs.Common.{get_or}
use Rattle.std.proofs.lemmas.Bool.{ne_eqb}
use Rattle.run_text.proofs.IntegerReading.{positive_by_sign}
use Rattle.run_text.proofs.integers.is_positive.Goals as goal

pub returns : goal.returns
returns c = positive_by_sign c.args.text.now c.requires (ne_eqb (get_or c.args.text.now 0 0) 45 c.if-text-eq45.false)
