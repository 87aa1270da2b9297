use Rattle.log_specs.specs.declared.Refusal.TheVariants as why
use Rattle.log_specs.specs.LogSessions.{refused}
use Rattle.log_session.proofs.LineLemmas.{adds_long}
use Rattle.log_session.proofs.ToldLemmas.{told_after}
use Rattle.log_session.proofs.judged_log.JudgedLog.add_long.Goals as goal

pub returns-clause-ok : goal.returns-clause-ok
returns-clause-ok g c = λ task line is long.
    adds_long task c.args.self.now c.refuse.new.self c.args.number line c.args.blocks.now.items c.refuse.new.blocks.items long
    (told_after task c.args.self.now c.refuse.new.self c.args.number (refused why.Long) c.reserve_line.new.blocks.items c.args.blocks.now.items c.refuse.new.blocks.items
    c.reserve_line.ensures.items (c.refuse.ensures task))
