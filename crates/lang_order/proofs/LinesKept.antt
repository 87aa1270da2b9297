-- What a limit asks of the rows, acts, variables and bounds of a line, and of those of the trees.
use Rattle.std.proofs.Common.{◌≡◌, ℕ, true, List, [], ◌∷◌, ◌++◌, map, Option, Some, None, refl}
use Rattle.std.specs.Bool.{⊤}
use Rattle.std.specs.Prelude.{nat_le, IsTrue, ◌&&◌}
use Rattle.std.specs.List.{list_all, flat_map}
use Rattle.lang_specs.specs.declared.Which.TheVariants.{Variables, Rows, Terms}
use Rattle.lang_specs.specs.Marks.{Mark}
use Rattle.lang_specs.specs.Trees.{Term, RowTree, RowsTree, BoundTree, BoundsTree, LocTree, Tree, rows_of, row_lists, act_expressions, expressions, bounds_of}
use Rattle.lang_specs.specs.Limits.{row_count, has_at_most}
use Rattle.lang_specs.proofs.SplitLemmas.{both_left, both_right}
use Rattle.lang_specs.proofs.EachLemmas.{Each, each_append, each_front, each_rest, each_of_map, each_in_map, each_of_flat, each_from, each_to, each_of_all, all_of_each, both}
use Rattle.lang_order.specs.Statements.{Statement, Vars, Obs}
use Rattle.lang_order.specs.LineLimits.{has_few_variables, rows_of_line, acts_of_line, line_keeps}
use Rattle.lang_order.proofs.PartsKept.{Asked, RowsAre, BoundsAre, LocIs, TransIs, TreeIs, NamesAre, LineIs}

each_in_flat : {A X : Type 0} (P : X → Type 0) (f : A → List X) (xs : List A) → Each (λ a. Each P (f a)) xs → Each P (flat_map f xs)
each_in_flat P f [] h = tt
each_in_flat P f (x ∷ xs) h = each_append P (f x) (flat_map f xs) h.0 (each_in_flat P f xs h.1)

each_both : {X : Type 0} (P Q : X → Type 0) (xs : List X) → Each P xs → Each Q xs → Each (λ x. P x × Q x) xs
each_both P Q [] h k = tt
each_both P Q (x ∷ xs) h k = ((h.0, k.0), each_both P Q xs h.1 k.1)

-- ---- the lists of rows of a tree

module _ (k : Asked) where
  of_option : (o : Option RowsTree) → Each k.rows (rows_of o) → RowsAre k o
  of_option None h = tt
  of_option (Some r) h = h.0

  in_option : (o : Option RowsTree) → RowsAre k o → Each k.rows (rows_of o)
  in_option None h = tt
  in_option (Some r) h = (h, tt)

  of_loc : (l : LocTree) → Each k.rows (rows_of l.init ++ rows_of l.inv ++ rows_of l.also) → LocIs k l
  of_loc l h =
      let a = rows_of l.init in let b = rows_of l.inv in let c = rows_of l.also in
      let front = each_front k.rows (a ++ b) c h in
      (of_option l.init (each_front k.rows a b front), of_option l.inv (each_rest k.rows a b front), of_option l.also (each_rest k.rows (a ++ b) c h))

  in_loc : (l : LocTree) → LocIs k l → Each k.rows (rows_of l.init ++ rows_of l.inv ++ rows_of l.also)
  in_loc l h =
      each_append k.rows (rows_of l.init ++ rows_of l.inv) (rows_of l.also)
      (each_append k.rows (rows_of l.init) (rows_of l.inv) (in_option l.init h.0) (in_option l.inv h.1)) (in_option l.also h.2)

  -- the rows of the locations, and the guards
  abbrev RowsOfTree : Tree → Type 0
  RowsOfTree t = Each (LocIs k) t.locs × Each (λ e. k.rows e.guard) t.trans

  of_lists : (t : Tree) → Each k.rows (row_lists t) → RowsOfTree t
  of_lists t h =
      let locs : List (List RowTree) = flat_map (λ l. rows_of l.init ++ rows_of l.inv ++ rows_of l.also) t.locs in
      let guards : List (List RowTree) = map (λ e. e.guard) t.trans in
      let inside = each_of_flat k.rows (λ l. rows_of l.init ++ rows_of l.inv ++ rows_of l.also) t.locs (each_front k.rows locs guards h) in (
        each_to (λ l. Each k.rows (rows_of l.init ++ rows_of l.inv ++ rows_of l.also)) (LocIs k) of_loc t.locs inside,
        each_of_map k.rows (λ e. e.guard) t.trans (each_rest k.rows locs guards h),
      )

  in_lists : (t : Tree) → RowsOfTree t → Each k.rows (row_lists t)
  in_lists t h =
      let locs : List (List RowTree) = flat_map (λ l. rows_of l.init ++ rows_of l.inv ++ rows_of l.also) t.locs in
      let inside = each_to (LocIs k) (λ l. Each k.rows (rows_of l.init ++ rows_of l.inv ++ rows_of l.also)) in_loc t.locs h.0 in
      each_append k.rows locs (map (λ e. e.guard) t.trans)
      (each_in_flat k.rows (λ l. rows_of l.init ++ rows_of l.inv ++ rows_of l.also) t.locs inside) (each_in_map k.rows (λ e. e.guard) t.trans h.1)

  -- nothing is asked of variables and bounds
  any_bounds : ((b : List BoundTree) → k.bounds b) → (o : Option BoundsTree) → BoundsAre k o
  any_bounds f None = tt
  any_bounds f (Some o) = f o.bounds

  any_names : ((n : List (List ℕ)) → k.vars n) → ((b : List BoundTree) → k.bounds b) → (s : Statement) → NamesAre k s
  any_names f g (Vars names) = f names
  any_names f g (Obs bounds) = g bounds
  any_names f g s = tt

-- ---- rows

abbrev FewRows : List RowTree → Type 0
FewRows rows = nat_le (row_count rows) 12 ≡ true

abbrev pub rows_asked : Asked
rows_asked = record { rows = FewRows; acts = λ a. ⊤; vars = λ v. ⊤; bounds = λ b. ⊤ }

rows_of_tree : (t : Tree) → list_all (λ rows. nat_le (row_count rows) 12) (row_lists t) ≡ true → TreeIs rows_asked t
rows_of_tree t h =
    let r = of_lists rows_asked t (each_of_all (λ rows. nat_le (row_count rows) 12) (row_lists t) h) in (
      tt,
      any_bounds rows_asked (λ b. tt) t.obs,
      r.0,
      each_both (λ e. FewRows e.guard) (λ e. ⊤) t.trans r.1 (each_from (λ e. ⊤) (λ e. tt) t.trans),
    )

rows_in_tree : (t : Tree) → TreeIs rows_asked t → list_all (λ rows. nat_le (row_count rows) 12) (row_lists t) ≡ true
rows_in_tree t h =
    let guards = each_to (TransIs rows_asked) (λ e. FewRows e.guard) (λ e i. i.0) t.trans h.3 in
    all_of_each (λ rows. nat_le (row_count rows) 12) (row_lists t) (in_lists rows_asked t (h.2, guards))

-- ---- terms

abbrev sides : List RowTree → List (List Term)
sides rows = flat_map (λ r. r.left ∷ r.right ∷ []) rows

abbrev FewTerms : List Term → Type 0
FewTerms e = has_at_most 14 e ≡ true

abbrev pub terms_asked : Asked
terms_asked = record { rows = λ rows. Each FewTerms (sides rows); acts = λ acts. Each FewTerms (flat_map act_expressions acts); vars = λ v. ⊤; bounds = λ b. ⊤ }

terms_of_tree : (t : Tree) → list_all (has_at_most 14) (expressions t) ≡ true → TreeIs terms_asked t
terms_of_tree t h =
    let rows : List (List Term) = flat_map sides (row_lists t) in
    let acts : List (List Term) = flat_map (λ e. flat_map act_expressions e.acts) t.trans in
    let all = each_of_all (has_at_most 14) (expressions t) h in
    let r = of_lists terms_asked t (each_of_flat FewTerms sides (row_lists t) (each_front FewTerms rows acts all)) in
    let a = each_of_flat FewTerms (λ e. flat_map act_expressions e.acts) t.trans (each_rest FewTerms rows acts all) in (
      tt,
      any_bounds terms_asked (λ b. tt) t.obs,
      r.0,
      each_both (λ e. Each FewTerms (sides e.guard)) (λ e. Each FewTerms (flat_map act_expressions e.acts)) t.trans r.1 a,
    )

terms_in_tree : (t : Tree) → TreeIs terms_asked t → list_all (has_at_most 14) (expressions t) ≡ true
terms_in_tree t h =
    let rows : List (List Term) = flat_map sides (row_lists t) in
    let acts : List (List Term) = flat_map (λ e. flat_map act_expressions e.acts) t.trans in
    let guards = each_to (TransIs terms_asked) (λ e. Each FewTerms (sides e.guard)) (λ e i. i.0) t.trans h.3 in
    let jumps = each_to (TransIs terms_asked) (λ e. Each FewTerms (flat_map act_expressions e.acts)) (λ e i. i.1) t.trans h.3 in
    all_of_each (has_at_most 14) (expressions t)
    (each_append FewTerms rows acts (each_in_flat FewTerms sides (row_lists t) (in_lists terms_asked t (h.2, guards)))
    (each_in_flat FewTerms (λ e. flat_map act_expressions e.acts) t.trans jumps))

-- ---- variables

abbrev pub vars_asked : Asked
vars_asked = record { rows = λ r. ⊤; acts = λ a. ⊤; vars = λ v. has_at_most 6 v ≡ true; bounds = λ b. has_at_most 6 b ≡ true }

few_bounds : (o : Option BoundsTree) → has_at_most 6 (bounds_of o) ≡ true → BoundsAre vars_asked o
few_bounds None h = tt
few_bounds (Some o) h = h

bounds_few : (o : Option BoundsTree) → BoundsAre vars_asked o → has_at_most 6 (bounds_of o) ≡ true
bounds_few None h = refl
bounds_few (Some o) h = h

any_rows : (o : Option RowsTree) → RowsAre vars_asked o
any_rows None = tt
any_rows (Some r) = tt

vars_of_tree : (t : Tree) → (has_at_most 6 t.vars && has_at_most 6 (bounds_of t.obs)) ≡ true → TreeIs vars_asked t
vars_of_tree t h = (
  both_left (has_at_most 6 t.vars) (has_at_most 6 (bounds_of t.obs)) h,
  few_bounds t.obs (both_right (has_at_most 6 t.vars) (has_at_most 6 (bounds_of t.obs)) h),
  each_from (LocIs vars_asked) (λ l. (any_rows l.init, any_rows l.inv, any_rows l.also)) t.locs,
  each_from (TransIs vars_asked) (λ e. (tt, tt)) t.trans,
)

vars_in_tree : (t : Tree) → TreeIs vars_asked t → (has_at_most 6 t.vars && has_at_most 6 (bounds_of t.obs)) ≡ true
vars_in_tree t h = both (has_at_most 6 t.vars) (has_at_most 6 (bounds_of t.obs)) h.0 (bounds_few t.obs h.1)

-- ---- trees

pub trees_few_rows : (trees : List Tree) → list_all (λ t. list_all (λ rows. nat_le (row_count rows) 12) (row_lists t)) trees ≡ true → Each (TreeIs rows_asked) trees
trees_few_rows trees h =
    each_to (λ t. list_all (λ rows. nat_le (row_count rows) 12) (row_lists t) ≡ true) (TreeIs rows_asked) rows_of_tree trees
    (each_of_all (λ t. list_all (λ rows. nat_le (row_count rows) 12) (row_lists t)) trees h)

pub few_rows_of_trees : (trees : List Tree) → Each (TreeIs rows_asked) trees → list_all (λ t. list_all (λ rows. nat_le (row_count rows) 12) (row_lists t)) trees ≡ true
few_rows_of_trees trees h =
    all_of_each (λ t. list_all (λ rows. nat_le (row_count rows) 12) (row_lists t)) trees
    (each_to (TreeIs rows_asked) (λ t. list_all (λ rows. nat_le (row_count rows) 12) (row_lists t) ≡ true) rows_in_tree trees h)

pub trees_few_terms : (trees : List Tree) → list_all (λ t. list_all (has_at_most 14) (expressions t)) trees ≡ true → Each (TreeIs terms_asked) trees
trees_few_terms trees h =
    each_to (λ t. list_all (has_at_most 14) (expressions t) ≡ true) (TreeIs terms_asked) terms_of_tree trees
    (each_of_all (λ t. list_all (has_at_most 14) (expressions t)) trees h)

pub few_terms_of_trees : (trees : List Tree) → Each (TreeIs terms_asked) trees → list_all (λ t. list_all (has_at_most 14) (expressions t)) trees ≡ true
few_terms_of_trees trees h =
    all_of_each (λ t. list_all (has_at_most 14) (expressions t)) trees
    (each_to (TreeIs terms_asked) (λ t. list_all (has_at_most 14) (expressions t) ≡ true) terms_in_tree trees h)

pub trees_few_vars : (trees : List Tree) → list_all (λ t. has_at_most 6 t.vars && has_at_most 6 (bounds_of t.obs)) trees ≡ true → Each (TreeIs vars_asked) trees
trees_few_vars trees h =
    each_to (λ t. (has_at_most 6 t.vars && has_at_most 6 (bounds_of t.obs)) ≡ true) (TreeIs vars_asked) vars_of_tree trees
    (each_of_all (λ t. has_at_most 6 t.vars && has_at_most 6 (bounds_of t.obs)) trees h)

pub few_vars_of_trees : (trees : List Tree) → Each (TreeIs vars_asked) trees → list_all (λ t. has_at_most 6 t.vars && has_at_most 6 (bounds_of t.obs)) trees ≡ true
few_vars_of_trees trees h =
    all_of_each (λ t. has_at_most 6 t.vars && has_at_most 6 (bounds_of t.obs)) trees
    (each_to (TreeIs vars_asked) (λ t. (has_at_most 6 t.vars && has_at_most 6 (bounds_of t.obs)) ≡ true) vars_in_tree trees h)

-- ---- lines

pub line_few_rows : (ms : List Mark) (s : Statement) → LineIs rows_asked s → IsTrue (line_keeps Rows ms s)
line_few_rows ms s h = all_of_each (λ rows. nat_le (row_count rows) 12) (rows_of_line s) h.0

pub few_rows_of_line : (ms : List Mark) (s : Statement) → IsTrue (line_keeps Rows ms s) → LineIs rows_asked s
few_rows_of_line ms s h =
    (each_of_all (λ rows. nat_le (row_count rows) 12) (rows_of_line s) h, tt, any_names rows_asked (λ n. tt) (λ b. tt) s)

pub line_few_terms : (ms : List Mark) (s : Statement) → LineIs terms_asked s → IsTrue (line_keeps Terms ms s)
line_few_terms ms s h =
    all_of_each (has_at_most 14) (flat_map sides (rows_of_line s) ++ flat_map act_expressions (acts_of_line s))
    (each_append FewTerms (flat_map sides (rows_of_line s)) (flat_map act_expressions (acts_of_line s)) (each_in_flat FewTerms sides (rows_of_line s) h.0) h.1)

pub few_terms_of_line : (ms : List Mark) (s : Statement) → IsTrue (line_keeps Terms ms s) → LineIs terms_asked s
few_terms_of_line ms s h =
    let rows = flat_map sides (rows_of_line s) in
    let acts = flat_map act_expressions (acts_of_line s) in
    let all = each_of_all (has_at_most 14) (rows ++ acts) h in (
      each_of_flat FewTerms sides (rows_of_line s) (each_front FewTerms rows acts all),
      each_rest FewTerms rows acts all,
      any_names terms_asked (λ n. tt) (λ b. tt) s,
    )

pub line_few_vars : (ms : List Mark) (s : Statement) → LineIs vars_asked s → IsTrue (line_keeps Variables ms s)
line_few_vars ms (Vars names) h = h.2
line_few_vars ms (Obs bounds) h = h.2
line_few_vars ms s h = refl

few_names : (s : Statement) → has_few_variables s ≡ true → NamesAre vars_asked s
few_names (Vars names) h = h
few_names (Obs bounds) h = h
few_names s h = tt

pub few_vars_of_line : (ms : List Mark) (s : Statement) → IsTrue (line_keeps Variables ms s) → LineIs vars_asked s
few_vars_of_line ms s h = (each_from (λ r. ⊤) (λ r. tt) (rows_of_line s), tt, few_names s h)
