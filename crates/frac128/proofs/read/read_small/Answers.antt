use Rattle.std.proofs.Common.{sym, arith}
use Rattle.frac128.proofs.DigitLemmas.{small_long}
use Rattle.frac128.proofs.read.read_small.Goals as goal

pub returns-then-bytes-gt4-clause-value : goal.returns-then-bytes-gt4-clause-value
returns-then-bytes-gt4-clause-value c = sym (small_long c.args.bytes.now 0 0 (omega arith))
