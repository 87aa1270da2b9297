-- The same trees but for line numbers.
use Rattle.std.specs.Prelude.{◌≡◌, List, map, Option, Some, None}
use Rattle.lang_specs.specs.Trees.{RowsTree, BoundsTree, LocTree, TransTree, Tree}

-- a statement of rows without its line
abbrev pub rows_alone : Option RowsTree → Option RowsTree
rows_alone None = None
rows_alone (Some r) = Some (record r { line = 0 })

abbrev pub bounds_alone : Option BoundsTree → Option BoundsTree
bounds_alone None = None
bounds_alone (Some o) = Some (record o { line = 0 })

-- a location without its lines
abbrev pub loc_alone : LocTree → LocTree
loc_alone l = record {
  line = 0;
  name = l.name;
  is_unsafe = l.is_unsafe;
  init = rows_alone l.init;
  inv = rows_alone l.inv;
  flow = record l.flow { line = 0 };
  also = rows_alone l.also;
}

abbrev pub trans_alone : TransTree → TransTree
trans_alone t = record t { line = 0 }

-- an automaton without its lines
abbrev pub tree_alone : Tree → Tree
tree_alone t = record {
  line = 0;
  name = t.name;
  vars = t.vars;
  var_line = 0;
  obs = bounds_alone t.obs;
  locs = map loc_alone t.locs;
  trans = map trans_alone t.trans;
}

-- equal in all but the lines
abbrev pub SameTrees : List Tree → List Tree → Type 0
SameTrees trees others = map tree_alone trees ≡ map tree_alone others
