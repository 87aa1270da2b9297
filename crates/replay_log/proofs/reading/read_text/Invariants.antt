use Rattle.std.proofs.Common.{◌-◌, ◌≤◌, length}
use Rattle.std.specs.Io.KnownBytes.{Consumes}
use Rattle.replay_log.proofs.reading.read_text.Given as goal

abbrev pub invariant-reads : goal.invariant-reads
invariant-reads g l = record {
  consumed : Consumes (g.L.Source.told l.fn.source) (g.L.Source.told l.source) l.text.items;
  later : g.L.Source.faults l.fn.source ≤ g.L.Source.faults l.source;
}

abbrev pub decreases-reads : goal.decreases-reads
decreases-reads g l = 16777217 - length l.text.items
