use Rattle.std.specs.Prelude.{◌-◌}
use Rattle.poly_decide.specs.Pruned.{IsThinned, AreUndominatedFrom}
use Rattle.poly_decide.proofs.pruning.without_implied.Given as goal

abbrev pub invariant-loop-done : goal.invariant-loop-done
invariant-loop-done l = record {
  thinned : IsThinned l.width l.initial.left.items l.left.items;
  undominated : AreUndominatedFrom (l.count - l.done) l.left.items;
}
