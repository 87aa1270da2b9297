use Rattle.std.proofs.Common.{length}
use Rattle.frac128.proofs.DecimalLemmas.{MantissaSoFar}
use Rattle.frac128.proofs.read.read_mantissa.Given as goal

abbrev pub invariant-loop-rest : goal.invariant-loop-rest
invariant-loop-rest l = MantissaSoFar l.bytes l.rest l.digits

abbrev pub decreases-loop-rest : goal.decreases-loop-rest
decreases-loop-rest l = length l.rest
