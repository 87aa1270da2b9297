use Rattle.std.proofs.Common.{get_or, refl, arith}
use Rattle.gap_runs.proofs.ShapeLemmas.{one_more, all_done}
use Rattle.gap_runs.proofs.shapes.moves_of.Goals as goal

pub loop-i-preserved : goal.loop-i-preserved
loop-i-preserved c =
    one_more c.args.m c.args.path.now c.args.nums.now c.loop-i.i (get_or c.args.path.now c.loop-i.i 0) c.loop-i.moves.items c.add_move.new.moves.items (omega arith) refl c.in_ok-add_move.ensures c.loop-i.invariant

pub returns : goal.returns
returns c = all_done c.args.m c.args.path.now c.args.nums.now c.loop-i.i c.loop-i.moves.items (omega arith) c.loop-i.invariant
