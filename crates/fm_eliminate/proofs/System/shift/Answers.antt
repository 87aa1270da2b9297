use Rattle.std.proofs.Common.{sym, subst}
use Rattle.poly_specs.specs.Rows.{AllWide}
use Rattle.fm_eliminate.proofs.ColumnLemmas.{placed_wide}
use Rattle.fm_eliminate.proofs.System.shift.Goals as goal

pub of_rows-requires-clause-wide : goal.of_rows-requires-clause-wide
of_rows-requires-clause-wide c = subst (λ rows. AllWide c.args.width rows) (sym c.in_ok-rows.ensures.items) (placed_wide c.args.to.now c.args.width c.rows.result.now)
