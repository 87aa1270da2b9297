-- Whether a number passes 128 bits in forming rows, in the words of the faults of trees.
use Rattle.std.specs.Prelude.{ℕ, ◌+◌, List, Option, Some, None, Bool, false, length}
use Rattle.std.specs.List.{list_any}
use Rattle.lang_specs.specs.Trees.{RowTree, RowsTree, TransTree}
use Rattle.model_specs.specs.Constraints.{Comparison, constraint, slope_constraint, comparison_numbers}
use Rattle.model_specs.specs.Automata.{transition_comparisons}
use Rattle.model_specs.specs.Faults.{some_passes}

-- in forming the rows of comparisons over n columns
abbrev pub comparisons_pass : ℕ → List Comparison → Bool
comparisons_pass n cs = list_any (λ c. some_passes (comparison_numbers n c)) cs

-- of constraints over n columns
abbrev pub constraints_pass : List (List ℕ) → ℕ → List RowTree → Bool
constraints_pass vars n rows = list_any (λ x. some_passes (comparison_numbers n (constraint vars x))) rows

-- of the constraints of slopes, where there are some
abbrev pub slopes_pass : List (List ℕ) → Option RowsTree → Bool
slopes_pass vars None = false
slopes_pass vars (Some r) = list_any (λ x. some_passes (comparison_numbers (length vars + 1) (slope_constraint vars x))) r.rows

-- of a transition
abbrev pub transition_passes : List (List ℕ) → TransTree → Bool
transition_passes vars e = list_any (λ c. some_passes (comparison_numbers (length vars + length vars) c)) (transition_comparisons vars e)
