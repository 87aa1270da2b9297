-- One more line of the last of several things.
use Rattle.std.proofs.Common.{◌≡◌, ℕ, Bool, List, [], ◌∷◌, ◌++◌, refl, ap, Vec, Global}
use Rattle.std.specs.Prelude.{⊤}
use Rattle.lha_model.specs.declared.names.Name.{Name}
use Rattle.lang_trees.specs.declared.trees.BoundTree.{BoundTree}
use Rattle.lang_trees.specs.declared.trees.TransTree.{TransTree}
use Rattle.lang_specs.specs.Trees.{Tree}
use Rattle.lang_order.specs.Adding.{in_last, add_to_loc, add_to_tree, add}
use Rattle.lang_lines.specs.declared.statements.Line.{Line}
use Rattle.lang_lines.specs.declared.statements.Line.TheVariants.{Version, Automaton, Vars, Obs, Loc, Trans, End}
use Rattle.lang_lines.specs.Lines.{says}

pub last_changed : {X : Type 0} (f : X → X) (xs : List X) (x : X) → in_last f (xs ++ x ∷ []) ≡ xs ++ f x ∷ []
last_changed f [] x = refl
last_changed f (y ∷ []) x = refl
last_changed f (y ∷ z ∷ ys) x = ap (λ zs. y ∷ zs) (last_changed f (z ∷ ys) x)

-- ---- lines of a location

abbrev InLoc : Line → Type 0
InLoc (Vars names) = ⊥
InLoc (Obs bounds) = ⊥
InLoc (Loc name unsafe_loc) = ⊥
InLoc (Trans transition) = ⊥
InLoc what = ⊤

in_loc : (what : Line) → ((x : Vec Name Global) → what ≡ Vars x → ⊥) → ((x : Vec BoundTree Global) → what ≡ Obs x → ⊥) →
    ((x : Name) (y : Bool) → what ≡ Loc x y → ⊥) → ((x : TransTree) → what ≡ Trans x → ⊥) → InLoc what
in_loc (Vars x) v o l t = v x refl
in_loc (Obs x) v o l t = o x refl
in_loc (Loc x y) v o l t = l x y refl
in_loc (Trans x) v o l t = t x refl
in_loc what v o l t = tt

into_loc : (n : ℕ) (what : Line) (t : Tree) → InLoc what → record t { locs = in_last (add_to_loc n (says what)) t.locs } ≡ add_to_tree n (says what) t
into_loc n (Vars x) t h = absurd h
into_loc n (Obs x) t h = absurd h
into_loc n (Loc x y) t h = absurd h
into_loc n (Trans x) t h = absurd h
into_loc n what t h = refl

-- a line that is no line of the automaton itself adds to the last location
pub adds_to_loc : (n : ℕ) (what : Line) (t : Tree) → ((x : Vec Name Global) → what ≡ Vars x → ⊥) → ((x : Vec BoundTree Global) → what ≡ Obs x → ⊥) →
    ((x : Name) (y : Bool) → what ≡ Loc x y → ⊥) → ((x : TransTree) → what ≡ Trans x → ⊥) →
    record t { locs = in_last (add_to_loc n (says what)) t.locs } ≡ add_to_tree n (says what) t
adds_to_loc n what t v o l e = into_loc n what t (in_loc what v o l e)

-- ---- lines of an automaton

abbrev InTree : Line → Type 0
InTree (Version second) = ⊥
InTree (Automaton name) = ⊥
InTree End = ⊥
InTree what = ⊤

in_tree : (what : Line) → ((x : Bool) → what ≡ Version x → ⊥) → ((x : Name) → what ≡ Automaton x → ⊥) → (what ≡ End → ⊥) → InTree what
in_tree (Version x) v a e = v x refl
in_tree (Automaton x) v a e = a x refl
in_tree End v a e = e refl
in_tree what v a e = tt

into_tree : (n : ℕ) (what : Line) (trees : List Tree) → InTree what → in_last (add_to_tree n (says what)) trees ≡ add n (says what) trees
into_tree n (Version x) trees h = absurd h
into_tree n (Automaton x) trees h = absurd h
into_tree n End trees h = absurd h
into_tree n what trees h = refl

-- a line inside an automaton adds to the last
pub adds_to_tree : (n : ℕ) (what : Line) (trees : List Tree) → ((x : Bool) → what ≡ Version x → ⊥) → ((x : Name) → what ≡ Automaton x → ⊥) → (what ≡ End → ⊥) →
    in_last (add_to_tree n (says what)) trees ≡ add n (says what) trees
adds_to_tree n what trees v a e = into_tree n what trees (in_tree what v a e)
