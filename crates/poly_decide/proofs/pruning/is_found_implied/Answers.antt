use Rattle.poly_decide.proofs.OutsideLemmas.{dominated_entailed}
use Rattle.poly_decide.proofs.pruning.is_found_implied.Goals as goal

pub returns-then-is_dominated : goal.returns-then-is_dominated
returns-then-is_dominated c = dominated_entailed c.args.width c.args.rows.now c.args.row.now (c.is_dominated.ensures.0 c.if-is_dominated.true)
