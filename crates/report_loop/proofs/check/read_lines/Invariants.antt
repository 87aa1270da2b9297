use Rattle.std.proofs.Common.{◌+◌, ◌-◌}
use Rattle.log_specs.specs.Blocks.{Task}
use Rattle.report_loop.specs.Outcome.{Streams}
use Rattle.report_loop.specs.Turns.{IsReporting}
use Rattle.report_loop.proofs.check.read_lines.Given as goal

abbrev pub invariant-lines : goal.invariant-lines
invariant-lines g l = (task : Task) (before : Streams) →
    IsReporting task before
    (record { log = g.L.Source.told l.fn.log; log_faults = g.L.Source.faults l.fn.log; out = g.O.Sink.taken l.fn.out; out_faults = g.O.Sink.faults l.fn.out })
    l.fn.reader l.fn.judged l.fn.pending.items →
    IsReporting task before
    (record { log = g.L.Source.told l.log; log_faults = g.L.Source.faults l.log; out = g.O.Sink.taken l.out; out_faults = g.O.Sink.faults l.out })
    l.reader l.judged l.pending.items

abbrev pub decreases-lines : goal.decreases-lines
decreases-lines g l = l.reader.reading.most + 1 - l.reader.reading.given
