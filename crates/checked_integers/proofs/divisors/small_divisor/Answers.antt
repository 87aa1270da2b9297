use Rattle.std.proofs.Common.{sym, ap, ◌∙◌, arith}
use Rattle.poly_specs.proofs.GcdLemmas.{gcd-zero, gcd-mod, gcd-swap}
use Rattle.poly_specs.specs.Elimination.{gcd}
use Rattle.checked_integers.proofs.DivisorLemmas.{gcd-into_one}
use Rattle.checked_integers.proofs.divisors.small_divisor.Goals as goal

pub loop-y-preserved : goal.loop-y-preserved
loop-y-preserved c = gcd-mod _ _ ∙ c.loop-y.invariant

pub returns-then-y-eq1 : goal.returns-then-y-eq1
returns-then-y-eq1 c = sym (gcd-into_one c.loop-y.x) ∙ ap (gcd c.loop-y.x) (sym c.if-y-eq1.true) ∙ c.loop-y.invariant

pub returns : goal.returns
returns c = sym (gcd-zero _ _ (omega arith)) ∙ c.loop-y.invariant

pub loop-y-init : goal.loop-y-init
loop-y-init c = gcd-swap c.args.b c.args.a
