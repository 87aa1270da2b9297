use Rattle.std.proofs.Common.{◌≡◌}
use Rattle.std.specs.Prelude.{All}
use Rattle.run_specs.specs.Sessions.{IsMonitorSession}
use Rattle.interleave_core.proofs.world.seats_of.Given as goal

abbrev pub invariant-loop-session : goal.invariant-loop-session
invariant-loop-session l = record {
  seats : l.seats.items ≡ l.yielded;
  kept : All IsMonitorSession l.yielded;
}
