-- What a text of models says: automata, each with its variables, locations and transitions.
use Rattle.std.specs.Prelude.{ℕ, Bool, List, [], ◌∷◌, ◌++◌, map, Option, Some, None}
use Rattle.std.specs.List.{flat_map}
use Rattle.poly_specs.specs.Fractions.{Fraction}
use Rattle.lang_specs.specs.declared.Sign.{Sign}

-- a number, or a number times a variable, taken away where neg; the number is at least 0. An expression is a list of terms
pub record Term : Type 0 where
  pub neg : Bool
  pub value : Fraction
  pub var : Option (List ℕ)

-- a constraint between two expressions
pub record RowTree : Type 0 where
  pub left : List Term
  pub sign : Sign
  pub right : List Term

-- `init`, `inv` or `also`, with its line
pub record RowsTree : Type 0 where
  pub line : ℕ
  pub rows : List RowTree

-- a variable's least and greatest slope
pub record BoxTree : Type 0 where
  pub var : List ℕ
  pub lo : Fraction
  pub hi : Fraction

-- `flow`, with its line
pub record BoxesTree : Type 0 where
  pub line : ℕ
  pub boxes : List BoxTree

-- a variable's tolerance
pub record BoundTree : Type 0 where
  pub var : List ℕ
  pub within : Fraction

-- `obs`, with its line
pub record BoundsTree : Type 0 where
  pub line : ℕ
  pub bounds : List BoundTree

-- a location, with the line of its `loc`
pub record LocTree : Type 0 where
  pub line : ℕ
  pub name : List ℕ
  pub is_unsafe : Bool
  pub init : Option RowsTree
  pub inv : Option RowsTree
  pub flow : BoxesTree
  pub also : Option RowsTree

-- what a transition does to a variable; expressions speak of the values before it
pub data Act : Type 0 where
  -- it takes this value
  Set : List ℕ → List Term → Act
  -- it takes a value from the first to the second
  Within : List ℕ → List Term → List Term → Act
  -- it takes any value
  Free : List ℕ → Act

-- a transition, with its line
pub record TransTree : Type 0 where
  pub line : ℕ
  pub from : List ℕ
  pub to : List ℕ
  pub label : List ℕ
  pub guard : List RowTree
  pub acts : List Act

-- an automaton, with the lines of its `automaton` and its `var`
pub record Tree : Type 0 where
  pub line : ℕ
  pub name : List ℕ
  pub vars : List (List ℕ)
  pub var_line : ℕ
  pub obs : Option BoundsTree
  pub locs : List LocTree
  pub trans : List TransTree

-- ---- what a tree holds

-- the rows of a statement, where it stands
abbrev pub rows_of : Option RowsTree → List (List RowTree)
rows_of None = []
rows_of (Some r) = r.rows ∷ []

-- the lists of rows of an automaton: of its locations' statements, and its transitions' guards
abbrev pub row_lists : Tree → List (List RowTree)
row_lists t = flat_map (λ l. rows_of l.init ++ rows_of l.inv ++ rows_of l.also) t.locs ++ map (λ e. e.guard) t.trans

abbrev pub act_expressions : Act → List (List Term)
act_expressions (Set var value) = value ∷ []
act_expressions (Within var lo hi) = lo ∷ hi ∷ []
act_expressions (Free var) = []

-- the expressions of an automaton: the sides of its rows, and those of its acts
abbrev pub expressions : Tree → List (List Term)
expressions t =
    flat_map (λ rows. flat_map (λ r. r.left ∷ r.right ∷ []) rows) (row_lists t)
    ++ flat_map (λ e. flat_map act_expressions e.acts) t.trans

-- the bounds of `obs`, where it stands
abbrev pub bounds_of : Option BoundsTree → List BoundTree
bounds_of None = []
bounds_of (Some o) = o.bounds
