use Rattle.std.proofs.Common.{length}
use Rattle.run_text.proofs.ReadingLemmas.{SoFar}
use Rattle.run_text.proofs.read.read_lines.Given as goal

abbrev pub invariant-loop-halves : goal.invariant-loop-halves
invariant-loop-halves l = SoFar l.fn.text l.state l.rest l.line

abbrev pub decreases-loop-halves : goal.decreases-loop-halves
decreases-loop-halves l = length l.rest
