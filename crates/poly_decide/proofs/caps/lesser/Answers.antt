use Rattle.std.proofs.Common.{Less, Equal, Greater, subst, sym}
use Rattle.std.proofs.lemmas.Cmp.{int_ranked}
use Rattle.poly_decide.proofs.CapLemmas.{lesser_left, lesser_right, lesser_same, Both}
use Rattle.poly_decide.specs.Caps.{IsCap}
use Rattle.poly_decide.proofs.caps.lesser.Goals as goal

pub returns-in-Less : goal.returns-in-Less
returns-in-Less c = lesser_left c.args.a c.args.b c.requires.left c.requires.right (int_ranked _ _ Less c.in-Less.ensures)

pub returns-in-Greater : goal.returns-in-Greater
returns-in-Greater c = lesser_right c.args.a c.args.b c.requires.left c.requires.right (int_ranked _ _ Greater c.in-Greater.ensures)

pub returns-in-Equal : goal.returns-in-Equal
returns-in-Equal c =
    subst (λ o. IsCap (record { end = c.args.a.end; is_open = o }) (Both c.args.a c.args.b)) (sym c.either.ensures)
    (lesser_same c.args.a c.args.b c.requires.left c.requires.right (int_ranked _ _ Equal c.in-Equal.ensures))
