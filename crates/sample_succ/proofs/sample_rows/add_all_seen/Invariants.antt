use Rattle.std.proofs.Common.{◌≡◌, ◌++◌}
use Rattle.std.specs.List.{flat_map}
use Rattle.run_specs.specs.Stages.{seen_rows, below}
use Rattle.sample_succ.proofs.sample_rows.add_all_seen.Given as goal

abbrev pub invariant-loop-j : goal.invariant-loop-j
invariant-loop-j l = l.rows.items ≡ l.initial.rows.items ++ flat_map (seen_rows l.a l.seen) (below l.j)
