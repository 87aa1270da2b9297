use Rattle.sample_succ.specs.Starts.{AreStartsBefore}
use Rattle.sample_succ.proofs.start.opening.Given as goal

abbrev pub invariant-loop-l : goal.invariant-loop-l
invariant-loop-l l = AreStartsBefore l.a l.l l.states.items
