use Rattle.std.proofs.Common.{Less, Equal, Greater}
use Rattle.std.proofs.lemmas.Cmp.{int_ranked}
use Rattle.column_pick.proofs.RangeLemmas.{lesser_left, lesser_right, lesser_same}
use Rattle.column_pick.proofs.ranges.lesser.Goals as goal

pub returns-in-Less : goal.returns-in-Less
returns-in-Less c = lesser_left c.args.a.now c.args.b.now c.see_kept.ensures.positive c.see_kept-2.ensures.positive (int_ranked _ _ Less c.in-Less.ensures)

pub returns-in-Greater : goal.returns-in-Greater
returns-in-Greater c =
    lesser_right c.args.a.now c.args.b.now c.see_kept.ensures.positive c.see_kept-2.ensures.positive (int_ranked _ _ Greater c.in-Greater.ensures)

pub returns-in-Equal : goal.returns-in-Equal
returns-in-Equal c =
    lesser_same c.args.a.now c.args.b.now c.see_kept.ensures.positive c.see_kept-2.ensures.positive (int_ranked _ _ Equal c.in-Equal.ensures)
