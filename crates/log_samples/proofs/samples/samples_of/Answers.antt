use Rattle.std.proofs.Common.{sym, subst}
use Rattle.std.specs.Prelude.{All}
use Rattle.run_specs.specs.Automaton.{width}
use Rattle.run_specs.specs.Logs.{IsLog}
use Rattle.log_specs.specs.LogSessions.{HasLogNumbers}
use Rattle.replay_reports.proofs.SampleLemmas.{accepted_are_log}
use Rattle.log_samples.proofs.TakenLemmas.{all_taken}
use Rattle.log_samples.proofs.samples.samples_of.Goals as goal

pub returns-clause-log : goal.returns-clause-log
returns-clause-log c =
    let same = all_taken c.args.automaton.now c.loop-next.so_far c.into_log.result c.args.text.now c.loop-next.rest.now c.into_log.ensures.kept c.into_log.ensures.samples
    c.in_default.ensures.lines c.loop-next.invariant.state in
    subst (IsLog (width c.args.automaton.now)) (sym same) (accepted_are_log c.args.automaton.now c.args.text.now).0

pub returns-clause-numbers : goal.returns-clause-numbers
returns-clause-numbers c =
    let same = all_taken c.args.automaton.now c.loop-next.so_far c.into_log.result c.args.text.now c.loop-next.rest.now c.into_log.ensures.kept c.into_log.ensures.samples
    c.in_default.ensures.lines c.loop-next.invariant.state in
    subst (All HasLogNumbers) (sym same) (accepted_are_log c.args.automaton.now c.args.text.now).1
