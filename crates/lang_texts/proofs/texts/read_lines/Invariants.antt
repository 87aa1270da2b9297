use Rattle.std.proofs.Common.{length}
use Rattle.lang_texts.proofs.ReadingLemmas.{SoFar}
use Rattle.lang_texts.proofs.texts.read_lines.Given as goal

abbrev pub invariant-loop-first : goal.invariant-loop-first
invariant-loop-first l = SoFar l.fn.text l.rest l.line l.state

abbrev pub decreases-loop-first : goal.decreases-loop-first
decreases-loop-first l = length l.rest
