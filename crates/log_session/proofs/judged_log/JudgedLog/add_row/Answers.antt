use Rattle.log_reader.specs.Rows.{row_said}
use Rattle.log_session.proofs.ReadLemmas.{row_of_a_line}
use Rattle.log_session.proofs.judged_log.JudgedLog.add_row.Goals as goal

pub add_row_of-requires-clause-row : goal.add_row_of-requires-clause-row
add_row_of-requires-clause-row g c = row_of_a_line c.args.line.now (row_said c.in-Ok.row) c.in-Ok.ensures.row
