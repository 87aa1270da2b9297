use Rattle.sample_succ.specs.Walks.{WalkedTo}
use Rattle.sample_succ.proofs.gap_walk.+walk.Given as goal

abbrev pub decreases-walk : goal.decreases-walk
decreases-walk l = l.left

abbrev pub invariant-loop-e : goal.invariant-loop-e
invariant-loop-e l = WalkedTo l.key l.node.parent l.node.path.items l.e l.fn.found.items l.found.items
