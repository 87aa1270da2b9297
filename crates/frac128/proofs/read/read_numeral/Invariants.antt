use Rattle.std.proofs.Common.{length}
use Rattle.frac128.proofs.DigitLemmas.{NumeralSoFar}
use Rattle.frac128.proofs.read.read_numeral.Given as goal

abbrev pub invariant-loop-rest : goal.invariant-loop-rest
invariant-loop-rest l = NumeralSoFar l.bytes l.rest l.count l.value

abbrev pub decreases-loop-rest : goal.decreases-loop-rest
decreases-loop-rest l = length l.rest
