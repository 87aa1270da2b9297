use Rattle.std.proofs.Common.{List, ℕ, subst}
use Rattle.replay_reports.specs.Findings.{Finds}
use Rattle.replay_log.proofs.TellingLemmas.{says_told}
use Rattle.replay_log.proofs.replay.replay_log.Goals as goal

pub returns-in-Ok-replay_run : goal.returns-in-Ok-replay_run
returns-in-Ok-replay_run g c =
    says_told c.args.automaton.now c.args.jumps c.args.log_text.now (g.L.Source.told c.args.run_text.now) (g.L.Source.told c.read_text.new.source)
    (g.L.Source.faults c.args.run_text.now) (g.L.Source.faults c.read_text.new.source) (g.O.Sink.taken c.args.out.now) (g.O.Sink.taken c.tell.new.out)
    (g.O.Sink.faults c.args.out.now) (g.O.Sink.faults c.tell.new.out) c.in-Ok.text.items c.in-Ok-replay_run.finding
    c.if-log_text-gt-TEXT_LIMIT.false c.in-Ok.ensures.text
    (subst (λ (t : List ℕ). Finds c.args.automaton.now c.args.jumps c.args.log_text.now t c.in-Ok-replay_run.finding) c.deref.ensures.value c.in-Ok-replay_run.ensures)
    c.tell.result c.tell.ensures
