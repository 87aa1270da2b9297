use Rattle.std.proofs.Common.{Option, sym, subst, arith}
use Rattle.std.specs.Prelude.{SomeIff}
use Rattle.poly_specs.specs.Bits.{NonePasses}
use Rattle.poly_specs.specs.Fractions.{Fraction}
use Rattle.model_rows.proofs.TotalLemmas.{total_at, numbers_at, total_more, numbers_more, passes_on}
use Rattle.model_rows.proofs.rows.total.Goals as goal

pub returns-in_err-sum : goal.returns-in_err-sum
returns-in_err-sum c =
    subst (λ (o : Option Fraction). SomeIff o (NonePasses (numbers_at c.args.place c.args.parts.now)) (total_at c.args.place c.args.parts.now)) (sym c.from_residual.ensures)
    (passes_on c.args.place c.args.parts.now c.loop-part.part-index c.part-item.result c.loop-part.sum (omega arith) c.part-item.is c.loop-part.invariant.0
    c.in_err-sum.ensures)

pub loop-part-preserved : goal.loop-part-preserved
loop-part-preserved c = (
  total_more c.args.place c.args.parts.now c.loop-part.part-index c.part-item.result c.loop-part.sum c.in_ok-sum.sum (omega arith) c.part-item.is c.loop-part.invariant.0
      c.in_ok-sum.ensures.1,
  numbers_more c.args.place c.args.parts.now c.loop-part.part-index c.part-item.result c.loop-part.sum (omega arith) c.part-item.is c.loop-part.invariant.0
      c.loop-part.invariant.1 c.in_ok-sum.ensures.0,
)
