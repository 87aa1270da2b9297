use Rattle.report_loop.proofs.Progress.{flush_says}
use Rattle.report_loop.proofs.check.flush_before_read.Goals as goal

pub returns-else-has_line-clause-says : goal.returns-else-has_line-clause-says
returns-else-has_line-clause-says g c task p before log reads i =
    flush_says task before log _ _ reads _ _ c.args.reader.now p c.args.pending.now.items c.write_pending.new.pending.items c.write_pending.result i c.write_pending.ensures
