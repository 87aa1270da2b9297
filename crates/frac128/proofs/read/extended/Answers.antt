use Rattle.std.proofs.Common.{◌*◌, ◌^◌, ◌<◌, sym, subst, arith}
use Rattle.frac128.proofs.DecimalLemmas.{long_zeros, long_number, short_number}
use Rattle.frac128.proofs.read.extended.Goals as goal

pub returns-then-zeros-gt32 : goal.returns-then-zeros-gt32
returns-then-zeros-gt32 c = long_zeros c.args.kept c.args.zeros c.args.digit (omega arith) c.if-zeros-gt32.true

pub returns-then-kept-power_of_ten : goal.returns-then-kept-power_of_ten
returns-then-kept-power_of_ten c = long_number c.args.kept c.args.zeros c.args.digit c.if-zeros-gt32.false (omega arith)

module _ (c : goal.After-power_of_ten-2) where
  pub small : c.args.kept * c.power_of_ten-2.result < 10 ^ 33
  small =
      subst (λ p. c.args.kept * p < 10 ^ 33) (sym c.power_of_ten-2.ensures)
      (short_number c.args.kept c.args.zeros c.if-zeros-gt32.false (omega arith))

pub overflow_mul-result : goal.overflow_mul-result
overflow_mul-result c = let h = small c in omega (arith, h)

pub overflow_add-result : goal.overflow_add-result
overflow_add-result c = let h = small c in omega (arith, h)
