use Rattle.std.specs.Prelude.{◌-◌}
use Rattle.poly_decide.specs.Pruned.{IsLevelOf}
use Rattle.poly_decide.proofs.thinning.thinned_left.Given as goal

abbrev pub invariant-loop-done : goal.invariant-loop-done
invariant-loop-done l = IsLevelOf l.system (l.width - l.done) l.left
