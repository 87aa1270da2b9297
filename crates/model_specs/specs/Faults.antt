-- What is wrong with trees that a text spells: a name, a missing or empty box, or a number that passes 128 bits.
use Rattle.std.specs.Prelude.{ℕ, ◌+◌, ◌^◌, ◌*ℤ◌, List, [], ◌∷◌, ◌++◌, flat_map, length, Bool, not, Option, Some, None, ℤ, nat_le, int_lt, unsigned_abs, bytes_eq, if◌then◌else◌}
use Rattle.std.specs.List.{list_any}
use Rattle.lang_specs.specs.Trees.{Term, RowTree, RowsTree, BoxTree, BoundTree, BoundsTree, LocTree, Act, Set, Within, Free, TransTree, Tree}
use Rattle.model_specs.specs.Constraints.{constraint, slope_constraint, comparison_numbers}
use Rattle.model_specs.specs.Automata.{box_of, act_name, transition_comparisons, location_names}

-- a fault: the line of the statement, and the name at fault; of a number that passes, the automaton's name
pub data ModelFault : Type 0 where
  UnknownName : (line : ℕ) (name : List ℕ) → ModelFault
  RepeatedName : (line : ℕ) (name : List ℕ) → ModelFault
  MissingSlope : (line : ℕ) (name : List ℕ) → ModelFault
  EmptyBox : (line : ℕ) (name : List ℕ) → ModelFault
  Passes : (line : ℕ) (name : List ℕ) → ModelFault

-- the line of the statement at fault
abbrev pub line_of : ModelFault → ℕ
line_of (UnknownName line name) = line
line_of (RepeatedName line name) = line
line_of (MissingSlope line name) = line
line_of (EmptyBox line name) = line
line_of (Passes line name) = line

-- the fault, where it is one
abbrev pub if_so : Bool → ModelFault → List ModelFault
if_so b f = if b then f ∷ [] else []

abbrev pub is_among : List (List ℕ) → List ℕ → Bool
is_among names name = list_any (λ x. bytes_eq x name) names

-- ---- names, from left to right

-- a name that is none of the known ones
abbrev pub unknown : ℕ → List (List ℕ) → List ℕ → List ModelFault
unknown line known name = if_so (not (is_among known name)) (UnknownName line name)

-- a name that stood before
abbrev pub repeated : ℕ → List (List ℕ) → List ℕ → List ModelFault
repeated line before name = if_so (is_among before name) (RepeatedName line name)

-- names of which each may stand once, after these
abbrev pub repeated_in : ℕ → List (List ℕ) → List (List ℕ) → List ModelFault
repeated_in line before [] = []
repeated_in line before (x ∷ xs) = repeated line before x ++ repeated_in line (before ++ x ∷ []) xs

abbrev pub names_in : List Term → List (List ℕ)
names_in terms = flat_map (λ t. elim t.var [ None ↦ [] | Some name ↦ name ∷ [] ]) terms

-- the unknown names of expressions and constraints
abbrev pub unknown_in : ℕ → List (List ℕ) → List Term → List ModelFault
unknown_in line vars terms = flat_map (unknown line vars) (names_in terms)

abbrev pub unknown_in_rows : ℕ → List (List ℕ) → List RowTree → List ModelFault
unknown_in_rows line vars rows = flat_map (λ r. unknown_in line vars r.left ++ unknown_in line vars r.right) rows

-- ---- numbers

-- one of the numbers passes 128 bits
abbrev pub some_passes : List ℤ → Bool
some_passes zs = list_any (λ z. nat_le (2 ^ 127) (unsigned_abs z)) zs

-- ---- statements of a location

-- `init` and `inv`: unknown names, and then whether forming a row passes
abbrev pub rows_faults : Tree → Option RowsTree → List ModelFault
rows_faults t None = []
rows_faults t (Some r) =
    unknown_in_rows r.line t.vars r.rows
    ++ if_so (list_any (λ x. some_passes (comparison_numbers (length t.vars) (constraint t.vars x))) r.rows) (Passes r.line t.name)

abbrev pub also_faults : Tree → Option RowsTree → List ModelFault
also_faults t None = []
also_faults t (Some r) =
    unknown_in_rows r.line t.vars r.rows
    ++ if_so (list_any (λ x. some_passes (comparison_numbers (length t.vars + 1) (slope_constraint t.vars x))) r.rows) (Passes r.line t.name)

-- the first variable without a box
abbrev pub missing_slope : ℕ → List BoxTree → List (List ℕ) → List ModelFault
missing_slope line boxes [] = []
missing_slope line boxes (var ∷ vars) = elim (box_of boxes var) [ None ↦ MissingSlope line var ∷ [] | Some b ↦ missing_slope line boxes vars ]

-- the lesser number is above the greater
abbrev pub is_empty_box : BoxTree → Bool
is_empty_box b = int_lt (b.hi.num *ℤ b.lo.den) (b.lo.num *ℤ b.hi.den)

-- `flow`: each box names a variable, each variable once, and is not empty
abbrev pub boxes_faults : ℕ → List (List ℕ) → List (List ℕ) → List BoxTree → List ModelFault
boxes_faults line vars before [] = []
boxes_faults line vars before (b ∷ bs) =
    unknown line vars b.var ++ repeated line before b.var ++ if_so (is_empty_box b) (EmptyBox line b.var)
    ++ boxes_faults line vars (before ++ b.var ∷ []) bs

-- a location, which stands after locations of these names
abbrev pub location_faults : Tree → List (List ℕ) → LocTree → List ModelFault
location_faults t before l =
    repeated l.line before l.name ++ missing_slope l.line l.flow.boxes t.vars
    ++ rows_faults t l.init ++ rows_faults t l.inv
    ++ boxes_faults l.flow.line t.vars [] l.flow.boxes ++ also_faults t l.also

abbrev pub locations_faults : Tree → List (List ℕ) → List LocTree → List ModelFault
locations_faults t before [] = []
locations_faults t before (l ∷ ls) = location_faults t before l ++ locations_faults t (before ++ l.name ∷ []) ls

-- ---- transitions

-- the expressions of an act, from left to right
abbrev pub unknown_in_act : ℕ → List (List ℕ) → Act → List ModelFault
unknown_in_act line vars (Set var value) = unknown_in line vars value
unknown_in_act line vars (Within var lo hi) = unknown_in line vars lo ++ unknown_in line vars hi
unknown_in_act line vars (Free var) = []

-- each act names a variable, each variable once
abbrev pub acts_faults : ℕ → List (List ℕ) → List (List ℕ) → List Act → List ModelFault
acts_faults line vars before [] = []
acts_faults line vars before (a ∷ acts) =
    unknown line vars (act_name a) ++ repeated line before (act_name a) ++ unknown_in_act line vars a
    ++ acts_faults line vars (before ++ act_name a ∷ []) acts

abbrev pub transition_faults : Tree → TransTree → List ModelFault
transition_faults t e =
    unknown e.line (location_names t) e.from ++ unknown e.line (location_names t) e.to
    ++ unknown_in_rows e.line t.vars e.guard ++ acts_faults e.line t.vars [] e.acts
    ++ if_so (list_any (λ c. some_passes (comparison_numbers (length t.vars + length t.vars) c)) (transition_comparisons t.vars e)) (Passes e.line t.name)

-- ---- automata

-- `obs`: each bound names a variable, each variable once
abbrev pub bounds_faults : ℕ → List (List ℕ) → List (List ℕ) → List BoundTree → List ModelFault
bounds_faults line vars before [] = []
bounds_faults line vars before (b ∷ bs) =
    unknown line vars b.var ++ repeated line before b.var ++ bounds_faults line vars (before ++ b.var ∷ []) bs

abbrev pub obs_faults : Tree → Option BoundsTree → List ModelFault
obs_faults t None = []
obs_faults t (Some o) = bounds_faults o.line t.vars [] o.bounds

-- an automaton, which stands after automata of these names: its faults in the order of the text
abbrev pub tree_faults : List (List ℕ) → Tree → List ModelFault
tree_faults before t =
    repeated t.line before t.name ++ repeated_in t.var_line [] t.vars ++ obs_faults t t.obs
    ++ locations_faults t [] t.locs ++ flat_map (transition_faults t) t.trans

abbrev pub faults_after : List (List ℕ) → List Tree → List ModelFault
faults_after before [] = []
faults_after before (t ∷ ts) = tree_faults before t ++ faults_after (before ++ t.name ∷ []) ts

-- all faults, in the order of the text: by line, on one line from left to right
abbrev pub faults_of : List Tree → List ModelFault
faults_of trees = faults_after [] trees
