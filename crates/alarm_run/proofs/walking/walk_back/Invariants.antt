use Rattle.std.proofs.Common.{◌-◌}
use Rattle.alarm_run.specs.Walks.{IsPlace, IsWalkedBack}
use Rattle.alarm_run.proofs.walking.walk_back.Given as goal

abbrev pub invariant-loop-done : goal.invariant-loop-done
invariant-loop-done l = record {
  place : IsPlace l.fn.history (l.fn.count - l.done) l.walk;
  walked : IsWalkedBack l.fn.history l.fn.count (l.fn.count - l.done) l.walk;
}
