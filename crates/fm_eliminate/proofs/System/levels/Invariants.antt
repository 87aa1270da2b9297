use Rattle.std.specs.Prelude.{◌-◌}
use Rattle.poly_specs.specs.Systems.{AreLevels}
use Rattle.fm_eliminate.proofs.System.levels.Given as goal

abbrev pub invariant-loop-done : goal.invariant-loop-done
invariant-loop-done l = AreLevels (l.width - l.done) l.self (record { first = l.width - l.done; systems = l.systems.items })
