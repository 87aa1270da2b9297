use Rattle.std.specs.Prelude.{false}
use Rattle.lang_specs.specs.declared.Kind.TheVariants as kinds
use Rattle.lang_specs.specs.Expressions.{AreRows}
use Rattle.lang_order.specs.Statements.{Also}
use Rattle.lang_order.proofs.Things.{fault_in, also_says}
use Rattle.lang_order.proofs.lines.lines_of_slopes.Goals as goal

pub returns : goal.returns
returns c = λ second. fault_in second kinds.Also (AreRows false) Also (also_says second)
