use Rattle.std.proofs.Common.{map, sym, subst}
use Rattle.std.specs.Arc.{arc_value}
use Rattle.log_specs.specs.LogReports.{rules_of}
use Rattle.report_loop.specs.Outcome.{Says}
use Rattle.report_loop.specs.Tasks.{log_task}
use Rattle.report_loop.proofs.Progress.{nothing_done, started, task_fits}
use Rattle.report_loop.proofs.check.report_log.Goals as goal

pub returns-in_default : goal.returns-in_default
returns-in_default g c = nothing_done (log_task c.args.form (map (λ a. arc_value a) c.args.models.now) c.args.jumps c.args.runs) _ _ _ _

pub new-judged-requires-clause-distinct : goal.new-judged-requires-clause-distinct
new-judged-requires-clause-distinct g c = c.requires.names.variables

pub returns-in-Ok-read_lines : goal.returns-in-Ok-read_lines
returns-in-Ok-read_lines g c =
    let automata = map (λ a. arc_value a) c.args.models.now in
    let fits = task_fits c.args.form automata c.args.jumps c.args.runs in
    let task = log_task c.args.form automata c.args.jumps c.args.runs in
    let read =
    c.in-Ok-read_lines.ensures task _ (started task _ _ _ _ c.in-Ok.reader c.new-judged.result c.args.form automata c.args.jumps c.args.runs c.new-pending.result.items
    c.in-Ok.ensures c.new-judged.ensures fits c.new-pending.ensures.items) in
    c.write_rest.ensures task _ _ _ read.1 read.0

pub returns : goal.returns
returns g c =
    let automata = map (λ a. arc_value a) c.args.models.now in
    let fits = task_fits c.args.form automata c.args.jumps c.args.runs in
    let task = log_task c.args.form automata c.args.jumps c.args.runs in
    let read =
    c.in-Err.ensures task _ (started task _ _ _ _ c.in-Ok.reader c.new-judged.result c.args.form automata c.args.jumps c.args.runs c.new-pending.result.items
    c.in-Ok.ensures c.new-judged.ensures fits c.new-pending.ensures.items) in
    subst (λ q. Says (rules_of task)
    (record { log = g.L.Source.told c.args.log.now; log_faults = g.L.Source.faults c.args.log.now; out = g.O.Sink.taken c.args.out.now; out_faults = g.O.Sink.faults c.args.out.now })
    (record { log = g.L.Source.told c.read_lines.new.log; log_faults = g.L.Source.faults c.read_lines.new.log; out = g.O.Sink.taken c.read_lines.new.out; out_faults = g.O.Sink.faults c.read_lines.new.out })
    q) (sym c.write_status.ensures) read
