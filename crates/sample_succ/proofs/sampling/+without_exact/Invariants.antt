use Rattle.sample_succ.proofs.sampling.+without_exact.Given as goal

abbrev pub decreases-without_exact : goal.decreases-without_exact
decreases-without_exact l = l.n
