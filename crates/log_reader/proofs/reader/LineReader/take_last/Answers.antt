use Rattle.log_reader.proofs.MoveLemmas.{last_moves, end_moves}
use Rattle.log_reader.proofs.reader.LineReader.take_last.Goals as goal

pub returns-clause-gives : goal.returns-clause-gives
returns-clause-gives c =
    let line = c.in_ok-line.ensures in
    let step = c.step_out.ensures in
    last_moves c.args.self.now c.step_out.new.self c.in_ok-line.line c.requires.over c.requires.first (c.has_last.ensures.some c.if-not-has_last.false) line.short line.long step.held step.given step.dropped step.keeps
