use Rattle.std.proofs.Common.{map}
use Rattle.std.specs.Arc.{arc_value}
use Rattle.log_specs.specs.declared.LogForm.TheVariants.{Watch}
use Rattle.report_loop.specs.Tasks.{log_task}
use Rattle.report_loop.proofs.Progress.{nothing_done}
use Rattle.hamon_engine.proofs.command.watch_logs.Goals as goal

pub returns-in-Err : goal.returns-in-Err
returns-in-Err g c = nothing_done (log_task Watch (map (λ a. arc_value a) c.args.models.now) c.args.options.now.jumps c.args.options.now.runs) _ _ _ _
