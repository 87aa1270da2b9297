use Rattle.gap_runs.proofs.paths.+trace.Given as goal

abbrev pub decreases-trace : goal.decreases-trace
decreases-trace l = l.left
