use Rattle.std.proofs.Common.{◌++◌, ◌∷◌, [], sym, subst}
use Rattle.poly_specs.specs.Rows.{AllWide}
use Rattle.poly_decide.proofs.OutsideLemmas.{wide_with_opposite}
use Rattle.poly_decide.proofs.outside.with_opposite.Goals as goal

pub of_rows-requires-clause-wide : goal.of_rows-requires-clause-wide
of_rows-requires-clause-wide c = subst (AllWide c.args.width) (sym c.in_ok-all.ensures)
    (subst (λ r. AllWide c.args.width (c.args.rows.now ++ r ∷ [])) (sym c.opposite-other.ensures.value)
    (wide_with_opposite c.args.width c.args.rows.now c.args.row.now c.requires.wide c.requires.width))
