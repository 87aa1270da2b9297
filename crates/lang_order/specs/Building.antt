-- The trees that statements build.
use Rattle.std.specs.Prelude.{ℕ, Bool, List, [], ◌∷◌, Option, Some, None}
use Rattle.lang_specs.specs.Trees.{RowsTree, BoxesTree, BoundsTree, LocTree, TransTree, Tree}
use Rattle.lang_order.specs.Statements.{Statement, Version, Automaton, Vars, Obs, Loc, Init, Inv, Flow, Also, Trans, End, Numbered}

-- what the statements from some place on say: whole automata, and before them what belongs to an automaton, and before that
-- what belongs to a location, of which the beginnings stand before that place
pub record Parts : Type 0 where
  pub trees : List Tree
  pub vars : List (List ℕ)
  pub var_line : ℕ
  pub obs : Option BoundsTree
  pub locs : List LocTree
  pub trans : List TransTree
  pub init : Option RowsTree
  pub inv : Option RowsTree
  pub flow : BoxesTree
  pub also : Option RowsTree

-- whole automata alone
abbrev pub trees_alone : List Tree → Parts
trees_alone trees = record {
  trees = trees;
  vars = [];
  var_line = 0;
  obs = None;
  locs = [];
  trans = [];
  init = None;
  inv = None;
  flow = record { line = 0; boxes = [] };
  also = None;
}

-- the location whose parts these are
abbrev pub loc_of : ℕ → List ℕ → Bool → Parts → LocTree
loc_of line name is_unsafe p = record {
  line = line;
  name = name;
  is_unsafe = is_unsafe;
  init = p.init;
  inv = p.inv;
  flow = p.flow;
  also = p.also;
}

-- the automaton whose parts these are
abbrev pub tree_of : ℕ → List ℕ → Parts → Tree
tree_of line name p = record {
  line = line;
  name = name;
  vars = p.vars;
  var_line = p.var_line;
  obs = p.obs;
  locs = p.locs;
  trans = p.trans;
}

-- a statement, before what the others say
abbrev pub put : ℕ → Statement → Parts → Parts
put line (Version second) p = p
put line (Automaton name) p = trees_alone (tree_of line name p ∷ p.trees)
put line (Vars names) p = record p { vars = names; var_line = line }
put line (Obs bounds) p = record p { obs = Some (record { line = line; bounds = bounds }) }
put line (Loc name is_unsafe) p = record p {
  locs = loc_of line name is_unsafe p ∷ p.locs;
  init = None;
  inv = None;
  flow = record { line = 0; boxes = [] };
  also = None;
}
put line (Init rows) p = record p { init = Some (record { line = line; rows = rows }) }
put line (Inv rows) p = record p { inv = Some (record { line = line; rows = rows }) }
put line (Flow boxes) p = record p { flow = record { line = line; boxes = boxes } }
put line (Also rows) p = record p { also = Some (record { line = line; rows = rows }) }
put line (Trans from to label guard acts) p =
    record p { trans = record { line = line; from = from; to = to; label = label; guard = guard; acts = acts } ∷ p.trans }
put line End p = p

-- what statements say
abbrev pub parts_of : List Numbered → Parts
parts_of [] = trees_alone []
parts_of (s ∷ ss) = put s.line s.says (parts_of ss)

-- the automata that statements say
abbrev pub trees_of : List Numbered → List Tree
trees_of ss = (parts_of ss).trees
