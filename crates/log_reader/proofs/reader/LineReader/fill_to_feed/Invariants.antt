use Rattle.std.proofs.Common.{◌+◌, ◌-◌, ◌≤◌, cond}
use Rattle.log_reader.specs.Reading.{Fills, Moves}
use Rattle.log_reader.proofs.reader.LineReader.fill_to_feed.Given as goal

abbrev pub invariant-loop-at : goal.invariant-loop-at
invariant-loop-at g l = record {
  fills : Moves (λ r s. Fills (g.L.Source.told l.fn.source) (g.L.Source.told l.source) r s) l.fn.self l.self;
  later : g.L.Source.faults l.fn.source ≤ g.L.Source.faults l.source;
}

abbrev pub decreases-loop-at : goal.decreases-loop-at
decreases-loop-at g l = l.self.reading.most - l.self.reading.taken + cond l.self.reading.has_ended 0 1
