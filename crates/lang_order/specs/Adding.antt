-- The trees that lines build, a line at a time.
use Rattle.std.specs.Prelude.{ℕ, Bool, List, [], ◌∷◌, ◌++◌, Some}
use Rattle.lang_specs.specs.Trees.{LocTree, Tree}
use Rattle.lang_order.specs.Statements.{Statement, Version, Automaton, Vars, Obs, Loc, Init, Inv, Flow, Also, Trans, End}
use Rattle.lang_order.specs.Building.{trees_alone, loc_of, tree_of}

-- the list with its last element changed
abbrev pub in_last : {X : Type 0} → (X → X) → List X → List X
in_last f [] = []
in_last f (x ∷ []) = f x ∷ []
in_last f (x ∷ y ∷ xs) = x ∷ in_last f (y ∷ xs)

-- a location of which the first line was read, and no other
abbrev pub new_loc : ℕ → List ℕ → Bool → LocTree
new_loc line name is_unsafe = loc_of line name is_unsafe (trees_alone [])

-- the same of an automaton
abbrev pub new_tree : ℕ → List ℕ → Tree
new_tree line name = tree_of line name (trees_alone [])

-- the location with one more line
abbrev pub add_to_loc : ℕ → Statement → LocTree → LocTree
add_to_loc line (Init rows) l = record l { init = Some (record { line = line; rows = rows }) }
add_to_loc line (Inv rows) l = record l { inv = Some (record { line = line; rows = rows }) }
add_to_loc line (Flow boxes) l = record l { flow = record { line = line; boxes = boxes } }
add_to_loc line (Also rows) l = record l { also = Some (record { line = line; rows = rows }) }
add_to_loc line s l = l

-- the automaton with one more line
abbrev pub add_to_tree : ℕ → Statement → Tree → Tree
add_to_tree line (Vars names) t = record t { vars = names; var_line = line }
add_to_tree line (Obs bounds) t = record t { obs = Some (record { line = line; bounds = bounds }) }
add_to_tree line (Loc name is_unsafe) t = record t { locs = t.locs ++ new_loc line name is_unsafe ∷ [] }
add_to_tree line (Trans from to label guard acts) t =
    record t { trans = t.trans ++ record { line = line; from = from; to = to; label = label; guard = guard; acts = acts } ∷ [] }
add_to_tree line s t = record t { locs = in_last (add_to_loc line s) t.locs }

-- the automata with one more line, of which the last, and the last location, may be unfinished
abbrev pub add : ℕ → Statement → List Tree → List Tree
add line (Version second) trees = trees
add line (Automaton name) trees = trees ++ new_tree line name ∷ []
add line End trees = trees
add line s trees = in_last (add_to_tree line s) trees
