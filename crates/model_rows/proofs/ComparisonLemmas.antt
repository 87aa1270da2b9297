-- The rows of comparisons, and whether a number passes in forming them.
use Rattle.std.proofs.Common.{◌≡◌, ℕ, ◌+◌, List, map, length, ◌∙◌, ap}
use Rattle.std.specs.Prelude.{Result, Ok, Err, IfOk, OnOk}
use Rattle.std.specs.List.{flat_map, list_any}
use Rattle.std.proofs.lemmas.List.Folds.{flat_map-map}
use Rattle.lang_specs.specs.Trees.{RowTree}
use Rattle.model_specs.specs.Automata.{constraint_rows}
use Rattle.model_specs.specs.Constraints.{Comparison, constraint, slope_constraint, comparison_rows, comparison_numbers}
use Rattle.model_specs.specs.Faults.{some_passes}
use Rattle.model_rows.specs.Passing.{comparisons_pass, constraints_pass}
use Rattle.model_rows.proofs.PassLemmas.{list_any-map}

-- what follows of an answer
pub ok_then : {T E : Type 0} → (r : Result T E) (P Q : T → Type 0) → IfOk r P → ((x : T) → P x → Q x) → IfOk r Q
ok_then (Ok x) P Q h f = f x h
ok_then (Err e) P Q h f = tt

pub rows_of_constraints : (vars : List (List ℕ)) (n : ℕ) (rows : List RowTree) (cs : List Comparison) → cs ≡ map (constraint vars) rows →
    flat_map (comparison_rows n) cs ≡ constraint_rows vars n rows
rows_of_constraints vars n rows cs e = ap (flat_map (comparison_rows n)) e ∙ flat_map-map (comparison_rows n) (constraint vars) rows

pub constraints_passing : (vars : List (List ℕ)) (n : ℕ) (rows : List RowTree) (cs : List Comparison) → cs ≡ map (constraint vars) rows →
    comparisons_pass n cs ≡ constraints_pass vars n rows
constraints_passing vars n rows cs e = ap (comparisons_pass n) e ∙ list_any-map (λ c. some_passes (comparison_numbers n c)) (constraint vars) rows

pub rows_of_slopes : (vars : List (List ℕ)) (rows : List RowTree) (cs : List Comparison) → cs ≡ map (slope_constraint vars) rows →
    flat_map (comparison_rows (length vars + 1)) cs ≡ flat_map (λ x. comparison_rows (length vars + 1) (slope_constraint vars x)) rows
rows_of_slopes vars rows cs e =
    ap (flat_map (comparison_rows (length vars + 1))) e ∙ flat_map-map (comparison_rows (length vars + 1)) (slope_constraint vars) rows

pub slopes_passing : (vars : List (List ℕ)) (n : ℕ) (rows : List RowTree) (cs : List Comparison) → cs ≡ map (slope_constraint vars) rows →
    comparisons_pass n cs ≡ list_any (λ x. some_passes (comparison_numbers n (slope_constraint vars x))) rows
slopes_passing vars n rows cs e = ap (comparisons_pass n) e ∙ list_any-map (λ c. some_passes (comparison_numbers n c)) (slope_constraint vars) rows

pub on_ok_then : {T E : Type 0} → (r : Result T E) (P Q : Type 0) → OnOk r P → (P → Q) → OnOk r Q
on_ok_then (Ok x) P Q h f = f h
on_ok_then (Err e) P Q h f = tt
