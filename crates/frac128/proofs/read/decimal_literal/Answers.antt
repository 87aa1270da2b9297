use Rattle.std.proofs.Common.{◌+◌, ◌*◌, ◌^◌, ◌<◌, sym, subst, arith}
use Rattle.frac128.proofs.DigitLemmas.{joined_fits}
use Rattle.frac128.proofs.RangeLemmas.{power-positive}
use Rattle.frac128.proofs.read.decimal_literal.Goals as goal

module _ (c : goal.After-pow-scale) where
  pub small : c.args.n.value * c.pow-scale.result + c.args.d.value < 2 ^ 64
  small =
      subst (λ p. c.args.n.value * p + c.args.d.value < 2 ^ 64) (sym c.pow-scale.ensures)
      (joined_fits c.args.n.value c.args.d.value c.args.d.count c.requires.0 c.requires.1 (omega arith))

pub overflow_mul-n : goal.overflow_mul-n
overflow_mul-n c = let h = small c in omega (arith, h)

pub overflow_add-n : goal.overflow_add-n
overflow_add-n c = let h = small c in omega (arith, h)

pub ratio-requires : goal.ratio-requires
ratio-requires c = subst (λ p. 0 < p) (sym c.pow-scale.ensures) (power-positive c.args.d.count)
