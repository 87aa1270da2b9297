use Rattle.hamon_engine.proofs.CommandLemmas.{memory_cause, words_cause}
use Rattle.hamon_engine.proofs.RunLemmas.{memory_first, untouched_same}
use Rattle.hamon_engine.proofs.command.do_words.Goals as goal

pub returns-in-Err-Memory-clause-report : goal.returns-in-Err-Memory-clause-report
returns-in-Err-Memory-clause-report g c = memory_first _ (g.S.Shelf.text c.args.shelf.now) _ _ _ _

pub returns-in-Err-Memory-clause-cause : goal.returns-in-Err-Memory-clause-cause
returns-in-Err-Memory-clause-cause g c = memory_cause _ _ _

pub returns-in-Err-Refused-clause-cause : goal.returns-in-Err-Refused-clause-cause
returns-in-Err-Refused-clause-cause g c = words_cause _ _ _ (untouched_same _)
