use Rattle.log_reader.proofs.MoveLemmas.{line_moves}
use Rattle.log_reader.proofs.reader.LineReader.take_line.Goals as goal

pub returns-clause-gives : goal.returns-clause-gives
returns-clause-gives c =
    let line = c.in_ok-line.ensures in
    let step = c.step_over.ensures in
    line_moves c.args.self.now c.step_over.new.self c.in_ok-line.line c.args.at c.requires.place c.requires.feed c.requires.first line.short line.long step.held step.given step.dropped step.keeps
