use Rattle.std.proofs.Common.{◌<◌, ◌^◌, arith, unsigned_abs}
use Rattle.std.proofs.lemmas.Int.{ints, to_z-of_z}
use Rattle.std.proofs.lemmas.Grind.{common_steps}
use Rattle.poly_specs.proofs.LowestLemmas.{lowest-IsKept}
use Rattle.frac128.proofs.Frac.make.Goals as goal

pub invariant_of-result : goal.invariant_of-result
invariant_of-result c =
    let few : unsigned_abs c.args.den < 2 ^ 127 = omega (arith, ints) in
    let kept = lowest-IsKept (record { num = c.args.num; den = c.args.den }) c.requires.positive c.requires.kept few in
    grind (arith, to_z-of_z, common_steps, kept)
