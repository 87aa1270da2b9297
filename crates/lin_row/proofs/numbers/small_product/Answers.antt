use Rattle.std.proofs.Common.{◌<◌, ◌*◌, ◌^◌, unsigned_abs, arith}
use Rattle.std.proofs.lemmas.Int.{unsigned_abs-mul}
use Rattle.std.proofs.lemmas.Nat.{mul-lt}
use Rattle.lin_row.proofs.numbers.small_product.Goals as goal

pub returns-clause-size : goal.returns-clause-size
returns-clause-size c =
    let e = unsigned_abs-mul c.args.a c.args.b in
    let few : unsigned_abs c.args.a * unsigned_abs c.args.b < 2 ^ 124 = mul-lt (unsigned_abs c.args.a) (unsigned_abs c.args.b) (2 ^ 62) (2 ^ 62) c.requires.a c.requires.b in
    omega (arith, e, few)
