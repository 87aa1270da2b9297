use Rattle.std.proofs.Common.{◌≡◌, ℕ, ◌<◌, get_or}
use Rattle.poly_specs.specs.Rows.{Row}
use Rattle.poly_specs.specs.Systems.{negated}
use Rattle.fm_eliminate.proofs.pivots.negation_of.Given as goal

abbrev pub invariant-loop-other : goal.invariant-loop-other
invariant-loop-other l = (k : ℕ) (d : Row) → k < l.other-index → get_or l.rows k d ≡ negated l.row → ⊥
