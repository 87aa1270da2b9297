use Rattle.std.proofs.Common.{◌≡◌, [], map, take, drop}
use Rattle.model_specs.specs.Automata.{automaton_of}
use Rattle.model_specs.specs.Faults.{faults_after}
use Rattle.lha_check.proofs.trees.all_parts.Given as goal

abbrev pub invariant-loop-i : goal.invariant-loop-i
invariant-loop-i l =
    (l.found.items ≡ map automaton_of (take l.i l.trees))
    × (faults_after [] l.trees ≡ faults_after (map (λ t. t.name) (take l.i l.trees)) (drop l.i l.trees))
