use Rattle.std.specs.Prelude.{◌-◌}
use Rattle.poly_specs.specs.Systems.{AreLevels}
use Rattle.poly_decide.proofs.thinning.thinned_levels.Given as goal

abbrev pub invariant-loop-done : goal.invariant-loop-done
invariant-loop-done l = AreLevels (l.width - l.done) l.system (record { first = l.width - l.done; systems = l.systems.items })
