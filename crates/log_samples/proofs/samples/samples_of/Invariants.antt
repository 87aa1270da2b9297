use Rattle.std.proofs.Common.{◌≡◌, length}
use Rattle.log_samples.specs.Lines.{lines_from}
use Rattle.log_samples.specs.SoFar.{state_of}
use Rattle.log_specs.specs.LogSessions.{no_lines}
use Rattle.report_specs.specs.Lines.{lines_of}
use Rattle.replay_reports.specs.LogSamples.{state_after_lines}
use Rattle.log_samples.proofs.samples.samples_of.Given as goal

abbrev pub invariant-loop-next : goal.invariant-loop-next
invariant-loop-next l = record {
  automaton : l.so_far.automaton ≡ l.fn.automaton;
  state : state_after_lines l.fn.automaton (state_of l.so_far) (lines_from l.rest) ≡ state_after_lines l.fn.automaton no_lines (lines_of l.fn.text);
}

abbrev pub decreases-loop-next : goal.decreases-loop-next
decreases-loop-next l = length l.rest
