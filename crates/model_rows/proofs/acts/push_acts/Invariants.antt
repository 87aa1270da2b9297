use Rattle.std.proofs.Common.{◌≡◌, ◌++◌, bytes_eq}
use Rattle.std.specs.List.{find, flat_map}
use Rattle.run_specs.specs.Stages.{below}
use Rattle.model_specs.specs.Automata.{said_of, act_name, variable_at}
use Rattle.model_rows.proofs.acts.push_acts.Given as goal

abbrev pub invariant-loop-j : goal.invariant-loop-j
invariant-loop-j l =
    l.said.items ≡ l.initial.said.items ++ flat_map (λ j. said_of l.vars j (find (λ a. bytes_eq (act_name a) (variable_at l.vars j)) l.acts)) (below l.j)
