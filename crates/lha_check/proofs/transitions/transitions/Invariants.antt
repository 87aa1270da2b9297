use Rattle.std.proofs.Common.{◌≡◌, map, take, drop}
use Rattle.std.specs.Prelude.{flat_map}
use Rattle.model_specs.specs.Automata.{transition_of, location_names}
use Rattle.model_specs.specs.Faults.{transition_faults}
use Rattle.lha_check.proofs.transitions.transitions.Given as goal

abbrev pub invariant-loop-jump : goal.invariant-loop-jump
invariant-loop-jump l =
    (l.made.items ≡ map (transition_of l.tree.vars (location_names l.tree)) (take l.jump-index l.jumps))
    × (flat_map (transition_faults l.tree) l.jumps ≡ flat_map (transition_faults l.tree) (drop l.jump-index l.jumps))
