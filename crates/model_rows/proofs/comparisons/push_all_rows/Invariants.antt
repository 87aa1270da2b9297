use Rattle.std.proofs.Common.{◌≡◌, ◌++◌, take, false}
use Rattle.std.specs.List.{flat_map}
use Rattle.model_specs.specs.Constraints.{comparison_rows}
use Rattle.model_rows.specs.Passing.{comparisons_pass}
use Rattle.model_rows.proofs.comparisons.push_all_rows.Given as goal

abbrev pub invariant-loop-one : goal.invariant-loop-one
invariant-loop-one l =
    (l.rows.items ≡ l.initial.rows.items ++ flat_map (comparison_rows l.fn.width) (take l.one-index l.said))
    × (comparisons_pass l.fn.width (take l.one-index l.said) ≡ false)
