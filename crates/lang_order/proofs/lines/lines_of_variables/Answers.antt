use Rattle.lang_specs.specs.declared.Kind.TheVariants as kinds
use Rattle.lang_specs.specs.Expressions.{AreJoined, IsName}
use Rattle.lang_order.specs.Statements.{Vars}
use Rattle.lang_order.proofs.Things.{fault_in, var_says}
use Rattle.lang_order.proofs.lines.lines_of_variables.Goals as goal

pub returns : goal.returns
returns c = λ second. fault_in second kinds.Var (AreJoined IsName) Vars (var_says second)
