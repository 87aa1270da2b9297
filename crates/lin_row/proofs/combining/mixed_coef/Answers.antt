use Rattle.std.proofs.lemmas.Int.{to_z-of_z}
use Rattle.lin_row.proofs.combining.mixed_coef.Goals as goal

pub returns-clause-items : goal.returns-clause-items
returns-clause-items c = let p = c.ranges.p in let q = c.ranges.q in simp (to_z-of_z, p, q) at c.large_mixed_coef.ensures.items
