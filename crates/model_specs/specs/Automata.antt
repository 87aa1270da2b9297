-- The automaton that a tree says.
use Rattle.std.specs.Prelude.{ℕ, ◌+◌, List, [], ◌++◌, map, flat_map, length, Option, Some, None, All, bytes_eq, slice_index_or}
use Rattle.std.specs.List.{find, IsDistinct}
use Rattle.poly_specs.specs.Fractions.{Fraction, zero_fraction}
use Rattle.poly_specs.specs.Rows.{Row}
use Rattle.run_specs.specs.Automaton.{Automaton, Location, Transition}
use Rattle.run_specs.specs.Stages.{below}
use Rattle.lang_specs.specs.Trees.{RowTree, RowsTree, BoxTree, BoundTree, LocTree, Act, Set, Within, Free, TransTree, Tree, bounds_of}
use Rattle.model_specs.specs.Constraints.{Comparison, place_in, constraint, slope_constraint, comparison_rows, box_rows, act_comparisons, kept}

-- ---- tolerances

-- the tolerance of a variable: 0 where none is given
abbrev pub within_of : Option BoundTree → Fraction
within_of None = zero_fraction
within_of (Some b) = b.within

abbrev pub tolerances : Tree → List Fraction
tolerances t = map (λ var. within_of (find (λ b. bytes_eq b.var var) (bounds_of t.obs))) t.vars

-- ---- locations

-- the rows of constraints over the variables, in n columns
abbrev pub constraint_rows : List (List ℕ) → ℕ → List RowTree → List Row
constraint_rows vars n rows = flat_map (λ r. comparison_rows n (constraint vars r)) rows

-- where a statement of rows stands
abbrev pub init_rows : List (List ℕ) → Option RowsTree → Option (List Row)
init_rows vars None = None
init_rows vars (Some r) = Some (constraint_rows vars (length vars) r.rows)

-- no invariant is one that always holds
abbrev pub invariant_rows : List (List ℕ) → Option RowsTree → List Row
invariant_rows vars None = []
invariant_rows vars (Some r) = constraint_rows vars (length vars) r.rows

-- the box of a variable
abbrev pub box_of : List BoxTree → List ℕ → Option BoxTree
box_of boxes var = find (λ b. bytes_eq b.var var) boxes

abbrev pub rows_of_box : ℕ → ℕ → Option BoxTree → List Row
rows_of_box m j None = []
rows_of_box m j (Some b) = box_rows m j b

-- the name of variable j
abbrev pub variable_at : List (List ℕ) → ℕ → List ℕ
variable_at vars j = slice_index_or vars j []

abbrev pub also_rows : List (List ℕ) → Option RowsTree → List Row
also_rows vars None = []
also_rows vars (Some r) = flat_map (λ x. comparison_rows (length vars + 1) (slope_constraint vars x)) r.rows

-- the boxes by variable, the upper row before the lower, and then the constraints of the slopes
abbrev pub slope_rows : List (List ℕ) → LocTree → List Row
slope_rows vars l =
    flat_map (λ j. rows_of_box (length vars) j (box_of l.flow.boxes (variable_at vars j))) (below (length vars)) ++ also_rows vars l.also

abbrev pub location_of : List (List ℕ) → LocTree → Location
location_of vars l = record {
  name = l.name;
  is_unsafe = l.is_unsafe;
  init = init_rows vars l.init;
  invariant = invariant_rows vars l.inv;
  slopes = slope_rows vars l;
}

-- ---- transitions

abbrev pub act_name : Act → List ℕ
act_name (Set var value) = var
act_name (Within var lo hi) = var
act_name (Free var) = var

-- what a transition says of variable j after it
abbrev pub said_of : List (List ℕ) → ℕ → Option Act → List Comparison
said_of vars j None = kept vars j
said_of vars j (Some a) = act_comparisons vars j a

-- what the acts say, by variable
abbrev pub comparisons_of : List (List ℕ) → List Act → List Comparison
comparisons_of vars acts =
    flat_map (λ j. said_of vars j (find (λ a. bytes_eq (act_name a) (variable_at vars j)) acts)) (below (length vars))

-- all that a transition says: the guard, and then the acts
abbrev pub transition_comparisons : List (List ℕ) → TransTree → List Comparison
transition_comparisons vars e = map (constraint vars) e.guard ++ comparisons_of vars e.acts

abbrev pub transition_of : List (List ℕ) → List (List ℕ) → TransTree → Transition
transition_of vars locs e = record {
  label = e.label;
  source = place_in locs e.from;
  target = place_in locs e.to;
  relation = flat_map (comparison_rows (length vars + length vars)) (transition_comparisons vars e);
}

-- ---- automata

abbrev pub location_names : Tree → List (List ℕ)
location_names t = map (λ l. l.name) t.locs

abbrev pub automaton_of : Tree → Automaton
automaton_of t = record {
  name = t.name;
  variables = t.vars;
  obs = tolerances t;
  locations = map (location_of t.vars) t.locs;
  transitions = map (transition_of t.vars (location_names t)) t.trans;
}

abbrev pub automata_of : List Tree → List Automaton
automata_of trees = map automaton_of trees

-- ---- names

-- no two variables have one name, and no two locations
pub record HasDistinctNames (a : Automaton) : Type 0 where
  pub variables : IsDistinct bytes_eq a.variables
  pub locations : IsDistinct bytes_eq (map (λ l. l.name) a.locations)

-- nor do two automata
abbrev pub HasOneOfEachName : List Automaton → Type 0
HasOneOfEachName automata = IsDistinct bytes_eq (map (λ a. a.name) automata) × All HasDistinctNames automata
