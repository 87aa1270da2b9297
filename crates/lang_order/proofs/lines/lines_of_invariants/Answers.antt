use Rattle.lang_specs.specs.declared.Kind.TheVariants as kinds
use Rattle.lang_specs.specs.Expressions.{AreRows}
use Rattle.lang_order.specs.Statements.{Inv}
use Rattle.lang_order.proofs.Things.{fault_in, inv_says}
use Rattle.lang_order.proofs.lines.lines_of_invariants.Goals as goal

pub returns : goal.returns
returns c = λ second. fault_in second kinds.Inv (AreRows second) Inv (inv_says second)
