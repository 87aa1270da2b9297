use Rattle.lang_specs.specs.declared.Kind.TheVariants as kinds
use Rattle.lang_specs.specs.Expressions.{AreRows}
use Rattle.lang_order.specs.Statements.{Init}
use Rattle.lang_order.proofs.Things.{fault_in, init_says}
use Rattle.lang_order.proofs.lines.lines_of_starts.Goals as goal

pub returns : goal.returns
returns c = λ second. fault_in second kinds.Init (AreRows second) Init (init_says second)
