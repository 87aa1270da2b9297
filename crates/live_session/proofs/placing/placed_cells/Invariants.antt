use Rattle.std.proofs.Common.{◌≡◌, ◌≤◌, length, drop}
use Rattle.std.specs.Vec.{vec_len}
use Rattle.run_specs.specs.Sessions.{placed}
use Rattle.live_session.proofs.placing.placed_cells.Given as goal

abbrev pub invariant-loop-rest : goal.invariant-loop-rest
invariant-loop-rest l = record {
  inside : l.rest ≤ length l.columns;
  size : vec_len l.by_variable ≡ l.width;
  items : l.by_variable.items ≡ placed l.width (drop l.rest l.columns) (drop l.rest l.cells);
}

abbrev pub decreases-loop-rest : goal.decreases-loop-rest
decreases-loop-rest l = l.rest
