use Rattle.std.proofs.Common.{◌≡◌, ◌<◌, ◌^◌, arith, unsigned_abs}
use Rattle.std.proofs.Math.Nat.{le_of_dvd}
use Rattle.std.proofs.lemmas.Int.{ints, to_z_pos}
use Rattle.std.specs.Int.{w128}
use Rattle.poly_specs.proofs.CombinationLemmas.{gcd-IsGcd}
use Rattle.poly_specs.proofs.GcdLemmas.{gcd-positive}
use Rattle.poly_specs.proofs.LowestLemmas.{size-positive}
use Rattle.poly_specs.specs.Elimination.{gcd}
use Rattle.frac128.proofs.numbers.shared_factor.Goals as goal

module _ (c : goal.After-greatest_divisor) where
  left : c.unsigned_abs.result ≡ unsigned_abs c.args.a
  left = omega (arith, ints)

  right : c.unsigned_abs-2.result ≡ unsigned_abs c.args.b
  right = omega (arith, ints)

  is : c.greatest_divisor.result ≡ gcd (unsigned_abs c.args.a) (unsigned_abs c.args.b)
  is = rw (left, right) at c.greatest_divisor.ensures

  some : 0 < unsigned_abs c.args.b
  some = size-positive c.args.b c.requires.positive

  few : unsigned_abs c.args.b < 2 ^ 127
  few = omega (arith, ints)

  low : 0 < gcd (unsigned_abs c.args.a) (unsigned_abs c.args.b)
  low = gcd-positive (unsigned_abs c.args.a) (unsigned_abs c.args.b) some

  high : gcd (unsigned_abs c.args.a) (unsigned_abs c.args.b) < 2 ^ 127
  high = omega (arith, few, le_of_dvd some (gcd-IsGcd (unsigned_abs c.args.a) (unsigned_abs c.args.b)).1)

pub overflow_cast-result : goal.overflow_cast-result
overflow_cast-result c = rw (is c) (let h = high c in omega (arith, ints, h))

pub returns-clause-value : goal.returns-clause-value
returns-clause-value c = rw (is c) (to_z_pos w128 _ (high c))

pub returns-clause-positive : goal.returns-clause-positive
returns-clause-positive c = rw (is c, to_z_pos w128 _ (high c)) (let l = low c in omega (arith, ints, l))
