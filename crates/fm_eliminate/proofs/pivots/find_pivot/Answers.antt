use Rattle.std.proofs.Common.{arith}
use Rattle.poly_specs.specs.Systems.{IsEquation}
use Rattle.fm_eliminate.proofs.PivotLemmas.{in_item, each_in}
use Rattle.fm_eliminate.proofs.pivots.find_pivot.Goals as goal

pub pivot_of-pair-requires-clause-among : goal.pivot_of-pair-requires-clause-among
pivot_of-pair-requires-clause-among c = in_item c.args.rows.now c.loop-row.row-index c.row-item.result (omega arith) c.row-item.is

pub returns : goal.returns
returns c r e = each_in (λ s. IsEquation c.args.x c.args.rows.now s → ⊥) c.args.rows.now (λ k d h. c.loop-row.invariant k d (omega arith)) r e.row e
