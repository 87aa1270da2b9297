use Rattle.sample_succ.specs.Walks.{WalkedFrom}
use Rattle.sample_succ.proofs.gap_step.find_all.Given as goal

abbrev pub invariant-loop-parent : goal.invariant-loop-parent
invariant-loop-parent l = WalkedFrom l.key l.parent l.found.items
