use Rattle.sample_succ.proofs.LastLegLemmas.{last_visited}
use Rattle.sample_succ.proofs.gap_walk.visit_last.Goals as goal

pub returns-clause-ok : goal.returns-clause-ok
returns-clause-ok c =
    let key = c.args.key.now in
    let n = c.args.node.now in
    last_visited key n.parent n.path.items c.args.found.now.items c.visit.new.found.items c.in_ok-visit.field-0 c.requires.full c.in_ok-visit.ensures.ok
