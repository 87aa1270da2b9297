use Rattle.poly_decide.proofs.ThinningLemmas.{first_left, left_added}
use Rattle.poly_decide.proofs.thinning.add_level.Goals as goal

pub without_column-requires-clause-level : goal.without_column-requires-clause-level
without_column-requires-clause-level c =
    first_left c.args.x c.args.system.now c.index.result.now c.args.systems.now.items c.requires.within c.requires.levels c.index.ensures

pub returns-clause-ok : goal.returns-clause-ok
returns-clause-ok c =
    left_added c.args.x c.args.system.now c.index.result.now c.args.systems.now.items c.requires.within c.requires.levels c.index.ensures
    c.in_ok-left.left c.put_first.new.systems.items c.in_ok-left.ensures.ok c.in_ok-put_first.ensures
