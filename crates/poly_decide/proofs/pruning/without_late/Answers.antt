use Rattle.std.proofs.Common.{ℕ, List, take}
use Rattle.poly_specs.specs.Rows.{Row, AllWide}
use Rattle.poly_decide.specs.Pruned.{IsThinned}
use Rattle.poly_decide.proofs.PruneLemmas.{taken_among, wide_among, wide_thinned}
use Rattle.poly_decide.proofs.pruning.without_late.Goals as goal

-- what is left of the first rows
wide_left : (n : ℕ) (rows left : List Row) (i : ℕ) → AllWide n rows → IsThinned n (take i rows) left → AllWide n left
wide_left n rows left i wide f = wide_thinned n (take i rows) left (wide_among n rows (take i rows) wide (taken_among i rows)) f

pub add_needed-requires-clause-wide : goal.add_needed-requires-clause-wide
add_needed-requires-clause-wide c = wide_left c.args.width c.args.rows.now c.loop-row.left.items c.loop-row.row-index c.requires.wide c.loop-row.invariant

pub returns-clause-wide : goal.returns-clause-wide
returns-clause-wide c = wide_left c.args.width c.args.rows.now c.loop-row.left.items c.loop-row.row-index c.requires.wide c.loop-row.invariant
