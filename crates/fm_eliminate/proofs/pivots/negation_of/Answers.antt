use Rattle.std.proofs.Common.{arith, refl}
use Rattle.fm_eliminate.proofs.PivotLemmas.{in_item, not_in}
use Rattle.fm_eliminate.proofs.pivots.negation_of.Goals as goal

pub returns-then-is_negation : goal.returns-then-is_negation
returns-then-is_negation c = (
  in_item c.args.rows.now c.loop-other.other-index c.other-item.result (omega arith) c.other-item.is,
  c.if-is_negation.ensures.0 refl,
)

pub returns : goal.returns
returns c = not_in _ c.args.rows.now (λ k d h. c.loop-other.invariant k d (omega arith))
