use Rattle.std.proofs.Common.{◌≡◌, [], map, take, drop}
use Rattle.model_specs.specs.Automata.{location_of}
use Rattle.model_specs.specs.Faults.{locations_faults}
use Rattle.lha_check.proofs.locations.locations.Given as goal

abbrev pub invariant-loop-i : goal.invariant-loop-i
invariant-loop-i l =
    (l.made.items ≡ map (location_of l.tree.vars) (take l.i l.locs))
    × (locations_faults l.tree [] l.locs ≡ locations_faults l.tree (map (λ x. x.name) (take l.i l.locs)) (drop l.i l.locs))
