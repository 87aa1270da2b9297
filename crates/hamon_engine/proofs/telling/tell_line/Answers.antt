use Rattle.hamon_engine.proofs.TellingLemmas.{whole_line}
use Rattle.hamon_engine.proofs.telling.tell_line.Goals as goal

pub returns-in-Ok-clause-told : goal.returns-in-Ok-clause-told
returns-in-Ok-clause-told g c = λ some. whole_line _ _ _ _ c.args.line.now c.in-Ok.ensures.ok
