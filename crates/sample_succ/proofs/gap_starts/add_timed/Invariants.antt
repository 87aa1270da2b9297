use Rattle.std.proofs.Common.{◌≡◌, ◌++◌, [], ◌∷◌, map, take, pos}
use Rattle.poly_specs.specs.Rows.{with_coef}
use Rattle.sample_succ.proofs.gap_starts.add_timed.Given as goal

abbrev pub invariant-loop-row : goal.invariant-loop-row
invariant-loop-row l = l.all.items ≡ l.initial.all.items ++ map (λ r. with_coef (take l.m r.coef ++ pos 0 ∷ []) r) (take l.row-index l.rows)
