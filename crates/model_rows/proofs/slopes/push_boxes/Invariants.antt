use Rattle.std.proofs.Common.{◌≡◌, ◌++◌, length}
use Rattle.std.specs.List.{flat_map}
use Rattle.run_specs.specs.Stages.{below}
use Rattle.model_specs.specs.Automata.{rows_of_box, box_of, variable_at}
use Rattle.model_rows.proofs.slopes.push_boxes.Given as goal

abbrev pub invariant-loop-j : goal.invariant-loop-j
invariant-loop-j l =
    l.rows.items ≡ l.initial.rows.items ++ flat_map (λ j. rows_of_box (length l.vars) j (box_of l.boxes (variable_at l.vars j))) (below l.j)
