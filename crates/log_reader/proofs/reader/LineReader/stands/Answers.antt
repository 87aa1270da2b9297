use Rattle.log_reader.proofs.MoveLemmas.{stands_by}
use Rattle.log_reader.proofs.reader.LineReader.stands.Goals as goal

pub returns : goal.returns
returns c = stands_by _ c.args.self.now c.self.view_is c.self.invariant.3
