use Rattle.lang_specs.specs.declared.Kind.TheVariants as kinds
use Rattle.lang_specs.specs.Expressions.{AreJoined, IsBox}
use Rattle.lang_order.specs.Statements.{Flow}
use Rattle.lang_order.proofs.Things.{fault_in, flow_says}
use Rattle.lang_order.proofs.lines.lines_of_boxes.Goals as goal

pub returns : goal.returns
returns c = λ second. fault_in second kinds.Flow (AreJoined IsBox) Flow (flow_says second)
