use Rattle.std.proofs.Common.{sym, subst}
use Rattle.log_specs.specs.LogReports.{rules_of}
use Rattle.report_loop.specs.Outcome.{Says}
use Rattle.report_loop.proofs.WriteLemmas.{all_written, write_failed}
use Rattle.report_loop.proofs.writing.write_rest.Goals as goal

pub returns-in-Ok : goal.returns-in-Ok
returns-in-Ok g c task before log reads faults says = all_written (rules_of task) before log _ _ reads _ _ c.args.pending.now.items c.args.status says c.in-Ok.ensures.0

pub returns-in-Err : goal.returns-in-Err
returns-in-Err g c task before log reads faults says =
    subst (λ q. Says (rules_of task) before (record { log = log; log_faults = reads; out = g.O.Sink.taken c.write_pending.new.out; out_faults = g.O.Sink.faults c.write_pending.new.out }) q) (sym c.write_status.ensures)
    (write_failed (rules_of task) before log _ _ reads _ _ c.args.pending.now.items c.write_pending.new.pending.items c.args.status c.in-Err.fault faults says c.in-Err.ensures)
