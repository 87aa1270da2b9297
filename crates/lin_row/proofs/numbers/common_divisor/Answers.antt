use Rattle.std.proofs.Common.{◌≡◌, ◌∙◌, ◌<◌, ◌^◌, ap, max, arith, pos, false, get_or, unsigned_abs}
use Rattle.std.proofs.lemmas.Int.{ints}
use Rattle.lin_row.proofs.DivisorLemmas.{shared_step, shared_last, shared_stop, gcd-below}
use Rattle.lin_row.proofs.numbers.common_divisor.Goals as goal

pub returns-then-shared-eq1-clause-value : goal.returns-then-shared-eq1-clause-value
returns-then-shared-eq1-clause-value c =
    shared_stop c.args.coef.now c.args.cst false c.loop-c.shared c.loop-c.c-index c.if-shared-eq1.true c.loop-c.invariant.0

module _ (c : goal.After-greatest_divisor-shared) where
  size : c.unsigned_abs.result ≡ unsigned_abs (get_or c.args.coef.now c.loop-c.c-index (pos 0))
  size = omega (arith, ints)

  small : unsigned_abs (get_or c.args.coef.now c.loop-c.c-index (pos 0)) < 2 ^ 127
  small = c.requires.coef_fits c.loop-c.c-index (pos 0) c.loop-c-test.true

pub loop-c-preserved : goal.loop-c-preserved
loop-c-preserved c =
    let n = size c in
    let few = small c in
    let low = gcd-below c.loop-c.shared c.unsigned_abs.result (2 ^ 127) c.loop-c.invariant.1 (omega (arith, few, n)) in
    let e = c.greatest_divisor-shared.ensures in (
      shared_step c.args.coef.now c.loop-c.c-index c.loop-c.shared c.greatest_divisor-shared.result c.unsigned_abs.result c.loop-c-test.true n e c.loop-c.invariant.0,
      omega (arith, e, low),
    )

module _ (c : goal.After-greatest_divisor) where
  last_size : c.unsigned_abs-2.result ≡ unsigned_abs c.args.cst
  last_size = omega (arith, ints)

pub returns-clause-value : goal.returns-clause-value
returns-clause-value c =
    ap (max 1) c.greatest_divisor.ensures
    ∙ shared_last c.args.coef.now c.args.cst false c.loop-c.shared c.unsigned_abs-2.result c.loop-c.c-index (omega arith) (last_size c) c.loop-c.invariant.0

pub returns-clause-bound : goal.returns-clause-bound
returns-clause-bound c =
    let n = last_size c in
    let e = c.greatest_divisor.ensures in
    let few : c.unsigned_abs-2.result < 2 ^ 127 = omega (arith, n, c.requires.cst_fits) in
    let low = gcd-below c.loop-c.shared c.unsigned_abs-2.result (2 ^ 127) c.loop-c.invariant.1 few in
    omega (arith, e, low)
