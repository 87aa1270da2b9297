-- Trees that grow a line at a time.
use Rattle.std.specs.Prelude.{List, [], Option, Some, None}
use Rattle.lang_specs.specs.Trees.{LocTree, Tree}

-- the locations that have come
abbrev pub locs_in : Option (List LocTree) → List LocTree
locs_in None = []
locs_in (Some locs) = locs

-- the automata that have come
abbrev pub trees_in : Option (List Tree) → List Tree
trees_in None = []
trees_in (Some trees) = trees
