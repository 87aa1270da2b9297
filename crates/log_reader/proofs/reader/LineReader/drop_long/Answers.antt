use Rattle.log_reader.proofs.MoveLemmas.{drops_all}
use Rattle.log_reader.proofs.reader.LineReader.drop_long.Goals as goal

pub returns-then-is_surely_long-clause-drops : goal.returns-then-is_surely_long-clause-drops
returns-then-is_surely_long-clause-drops c =
    drops_all c.args.self.now c.drop_held.new.self c.drop_held.ensures.reading c.drop_held.ensures.dropped c.requires (c.is_surely_long.ensures c.if-is_surely_long.true)
