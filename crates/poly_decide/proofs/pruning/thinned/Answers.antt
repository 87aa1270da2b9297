use Rattle.poly_decide.proofs.PruneLemmas.{thinned_trans, wide_thinned}
use Rattle.poly_decide.proofs.pruning.thinned.Goals as goal

pub returns-clause-thinned : goal.returns-clause-thinned
returns-clause-thinned c =
    thinned_trans c.args.width c.args.rows.now c.in_ok-few.few.items c.in_ok-left.left.items c.in_ok-few.ensures.thinned c.in_ok-left.ensures.thinned

pub returns-clause-wide : goal.returns-clause-wide
returns-clause-wide c = wide_thinned c.args.width c.in_ok-few.few.items c.in_ok-left.left.items c.in_ok-few.ensures.wide c.in_ok-left.ensures.thinned
