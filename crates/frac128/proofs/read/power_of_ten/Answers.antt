use Rattle.std.proofs.Common.{◌^◌, ◌≤◌, arith}
use Rattle.std.proofs.Math.Nat.{pow-le-pow_right}
use Rattle.frac128.proofs.read.power_of_ten.Goals as goal

pub pow-requires : goal.pow-requires
pow-requires c = let most : 10 ^ c.args.exponent ≤ 10 ^ 38 = pow-le-pow_right {n = 10} (omega arith) c.requires in omega (arith, most)
