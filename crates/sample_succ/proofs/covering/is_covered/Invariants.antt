use Rattle.std.proofs.Common.{take}
use Rattle.std.specs.Prelude.{All}
use Rattle.sample_succ.specs.Covers.{DoesNotCover}
use Rattle.sample_succ.proofs.covering.is_covered.Given as goal

abbrev pub invariant-loop-state : goal.invariant-loop-state
invariant-loop-state l = All (DoesNotCover l.rows.width l.node.loc l.node.seen_unsafe l.rows.rows) (take l.state-index l.found)
