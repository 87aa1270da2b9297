use Rattle.sample_succ.proofs.gap_parts.+parts.Given as goal

abbrev pub decreases-parts : goal.decreases-parts
decreases-parts l = l.left
