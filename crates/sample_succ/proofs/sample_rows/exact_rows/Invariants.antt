use Rattle.std.proofs.Common.{◌≡◌}
use Rattle.std.specs.Prelude.{filter}
use Rattle.std.specs.List.{flat_map}
use Rattle.run_specs.specs.Stages.{seen_rows, seen_exactly, below}
use Rattle.sample_succ.proofs.sample_rows.exact_rows.Given as goal

abbrev pub invariant-loop-j : goal.invariant-loop-j
invariant-loop-j l = l.rows.items ≡ flat_map (seen_rows l.a l.seen) (filter (seen_exactly l.a l.seen) (below l.j))
