use Rattle.std.proofs.Common.{length}
use Rattle.run_text.proofs.LineLemmas.{ValuesSoFar}
use Rattle.run_text.proofs.lines.collect.Given as goal

abbrev pub invariant-loop-halves : goal.invariant-loop-halves
invariant-loop-halves l = ValuesSoFar l.fn.bytes l.rest l.values.items

abbrev pub decreases-loop-halves : goal.decreases-loop-halves
decreases-loop-halves l = length l.rest
