use Rattle.std.specs.Prelude.{⊤}
use Rattle.std.specs.Vec.{vec_len}
use Rattle.interleave_core.proofs.world.give_up_all.Given as goal

abbrev pub invariant-loop-ticket : goal.invariant-loop-ticket
invariant-loop-ticket l = ⊤

abbrev pub decreases-loop-ticket : goal.decreases-loop-ticket
decreases-loop-ticket l = vec_len l.tickets
