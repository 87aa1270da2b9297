use Rattle.std.proofs.lemmas.Int.{to_z-of_z}
use Rattle.lin_row.proofs.numbers.sum_of_two.Goals as goal

pub returns : goal.returns
returns c =
    let p = c.ranges.p in
    let a = c.ranges.a in
    let q = c.ranges.q in
    let b = c.ranges.b in
    simp (to_z-of_z, p, a, q, b) at c.large_sum.ensures
