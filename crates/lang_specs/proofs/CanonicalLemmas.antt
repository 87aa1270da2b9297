-- Trees that are the same but for their lines have one canonical text.
use Rattle.std.proofs.Common.{◌≡◌, Bool, ◌||◌, List, [], ◌∷◌, ◌++◌, map, Option, Some, None, refl, sym, ap, ◌∙◌}
use Rattle.std.specs.List.{flat_map, list_any}
use Rattle.lang_specs.specs.declared.Kind.{Kind}
use Rattle.lang_specs.specs.declared.Kind.TheVariants as kinds
use Rattle.lang_specs.specs.Trees.{RowTree, RowsTree, BoundsTree, LocTree, Tree, rows_of, row_lists}
use Rattle.lang_specs.specs.Canonical.{rows_line, obs_line, loc_lines, trans_line, tree_lines, has_obs, has_strict, needs_second, canonical_lines, line_text, canonical_text}
use Rattle.lang_specs.specs.SameTrees.{rows_alone, bounds_alone, loc_alone, trans_alone, tree_alone, SameTrees}

-- ---- lists whose elements are changed where nothing looks

module _ {X : Type 0} (g : X → X) where
  pub flat_map_alike : {A : Type 0} (f : X → List A) → ((x : X) → f (g x) ≡ f x) → (xs : List X) → flat_map f (map g xs) ≡ flat_map f xs
  flat_map_alike f h [] = refl
  flat_map_alike f h (x ∷ xs) = let e = h x in let k = flat_map_alike f h xs in cc

  map_alike : {A : Type 0} (f : X → A) → ((x : X) → f (g x) ≡ f x) → (xs : List X) → map f (map g xs) ≡ map f xs
  map_alike f h [] = refl
  map_alike f h (x ∷ xs) = let e = h x in let k = map_alike f h xs in cc

  any_alike : (f : X → Bool) → ((x : X) → f (g x) ≡ f x) → (xs : List X) → list_any f (map g xs) ≡ list_any f xs
  any_alike f h [] = refl
  any_alike f h (x ∷ xs) = let e = h x in let k = any_alike f h xs in cc

-- ---- statements

rows_alike : (o : Option RowsTree) → rows_of (rows_alone o) ≡ rows_of o
rows_alike None = refl
rows_alike (Some r) = refl

line_alike : (k : Kind) (o : Option RowsTree) → rows_line k (rows_alone o) ≡ rows_line k o
line_alike k None = refl
line_alike k (Some r) = refl

obs_alike : (o : Option BoundsTree) → obs_line (bounds_alone o) ≡ obs_line o
obs_alike None = refl
obs_alike (Some o) = refl

has_alike : (o : Option BoundsTree) → has_obs (bounds_alone o) ≡ has_obs o
has_alike None = refl
has_alike (Some o) = refl

abbrev loc_rows : LocTree → List (List RowTree)
loc_rows l = rows_of l.init ++ rows_of l.inv ++ rows_of l.also

loc_rows_alike : (l : LocTree) → loc_rows (loc_alone l) ≡ loc_rows l
loc_rows_alike l = let a = rows_alike l.init in let b = rows_alike l.inv in let c = rows_alike l.also in simp (a, b, c) refl

loc_alike : (l : LocTree) → loc_lines (loc_alone l) ≡ loc_lines l
loc_alike l =
    let a = line_alike kinds.Init l.init in
    let b = line_alike kinds.Inv l.inv in
    let c = line_alike kinds.Also l.also in
    simp (a, b, c) refl

pub row_lists_alike : (t : Tree) → row_lists (tree_alone t) ≡ row_lists t
row_lists_alike t =
    let a = flat_map_alike loc_alone loc_rows loc_rows_alike t.locs in
    let b = map_alike trans_alone (λ e. e.guard) (λ e. refl) t.trans in
    simp (a, b) refl

needs_alike : (t : Tree) → needs_second (tree_alone t) ≡ needs_second t
needs_alike t =
    let a = has_alike t.obs in
    let b = row_lists_alike t in
    ap (λ x. x || has_strict (row_lists (tree_alone t))) a ∙ ap (λ x. has_obs t.obs || has_strict x) b

tree_alike : (t : Tree) → tree_lines (tree_alone t) ≡ tree_lines t
tree_alike t =
    let a = obs_alike t.obs in
    let b = flat_map_alike loc_alone loc_lines loc_alike t.locs in
    let c = flat_map_alike trans_alone (λ e. trans_line e ∷ []) (λ e. refl) t.trans in
    simp (a, b, c) refl

lines_alike : (trees : List Tree) → canonical_lines (map tree_alone trees) ≡ canonical_lines trees
lines_alike trees =
    let a = any_alike tree_alone needs_second needs_alike trees in
    let b = flat_map_alike tree_alone tree_lines tree_alike trees in
    simp (a, b) refl

pub one_text : (trees others : List Tree) → SameTrees trees others → canonical_text trees ≡ canonical_text others
one_text trees others same =
    let e = sym (lines_alike trees) ∙ ap canonical_lines same ∙ lines_alike others in ap (flat_map line_text) e
