use Rattle.lang_specs.specs.declared.Kind.TheVariants as kinds
use Rattle.lang_specs.specs.Expressions.{AreJoined, IsBound}
use Rattle.lang_order.specs.Statements.{Obs}
use Rattle.lang_order.proofs.Things.{fault_in, obs_says}
use Rattle.lang_order.proofs.lines.lines_of_bounds.Goals as goal

pub returns : goal.returns
returns c = λ second so. fault_in second kinds.Obs (AreJoined IsBound) Obs (obs_says second so)
