use Rattle.std.specs.Prelude.{map, string_bytes}
use Rattle.command_words.specs.CommandLine.{request_of}
use Rattle.hamon_engine.specs.Telling.{status_of}
use Rattle.hamon_engine.proofs.RunLemmas.{told_runs, told_cause, completes}
use Rattle.hamon_engine.proofs.command.run.Goals as goal

pub returns-clause-report : goal.returns-clause-report
returns-clause-report g c =
    told_runs _ _ (g.S.Shelf.text c.args.shelf.now) (g.S.Shelf.text c.do_words-ended.new.shelf) _ _ _ _ _ c.tell.ensures.same c.do_words-ended.ensures.report

pub returns-clause-complete : goal.returns-clause-complete
returns-clause-complete g c =
    completes _ _ (g.S.Shelf.text c.args.shelf.now) (g.S.Shelf.text c.do_words-ended.new.shelf) _ _ _ _
    (told_runs _ _ (g.S.Shelf.text c.args.shelf.now) (g.S.Shelf.text c.do_words-ended.new.shelf) _ _ _ _ _ c.tell.ensures.same c.do_words-ended.ensures.report)

pub returns-clause-cause : goal.returns-clause-cause
returns-clause-cause g c =
    told_cause
    (record { log = g.L.Source.told c.args.log.now; log_faults = g.L.Source.faults c.args.log.now; out = g.O.Sink.taken c.args.out.now; out_faults = g.O.Sink.faults c.args.out.now })
    (record { log = g.L.Source.told c.do_words-ended.new.log; log_faults = g.L.Source.faults c.do_words-ended.new.log; out = g.O.Sink.taken c.do_words-ended.new.out; out_faults = g.O.Sink.faults c.do_words-ended.new.out })
    (g.S.Shelf.text c.args.shelf.now) (g.S.Shelf.text c.do_words-ended.new.shelf) (g.S.Shelf.faults c.args.shelf.now) (g.S.Shelf.faults c.do_words-ended.new.shelf)
    (status_of c.do_words-ended.result) c.tell.result (request_of (map string_bytes c.args.words.now)) c.tell.ensures.same c.do_words-ended.ensures.cause

pub returns-clause-told : goal.returns-clause-told
returns-clause-told g c = c.tell.ensures.told _ c.do_words-ended.ensures.tellable
