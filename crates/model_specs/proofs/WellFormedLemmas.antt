-- The automata of trees without fault are within their limits.
use Rattle.std.proofs.Common.{◌≡◌, ℕ, ◌+◌, ◌<◌, true, ◌&&◌, List, [], ◌∷◌, ◌++◌, length, map, Option, Some, None, refl, sym, ap, ◌∙◌, subst, arith, ℤ}
use Rattle.std.specs.Prelude.{IsTrue, bytes_eq, flat_map, All, IfSome}
use Rattle.std.specs.List.{AllByRecursion, find, list_all}
use Rattle.std.proofs.lemmas.Bool.{leb-true}
use Rattle.std.proofs.lemmas.Int.{ints}
use Rattle.std.proofs.lemmas.List.{length-map}
use Rattle.std.proofs.lemmas.List.Elements.{All-from_recursion}
use Rattle.poly_specs.specs.Fractions.{AtMost, zero_fraction}
use Rattle.poly_specs.specs.LowestTerms.{IsLowest}
use Rattle.poly_specs.specs.Rows.{Row, AllWide}
use Rattle.poly_specs.specs.Elimination.{gcd}
use Rattle.number_specs.specs.Literals.{IsLiteralNumber}
use Rattle.run_specs.specs.Names.{is_name}
use Rattle.run_specs.specs.Stages.{below}
use Rattle.run_specs.specs.WellFormed.{IsLocation, IsTransition, IsWellFormed}
use Rattle.lang_specs.specs.Trees.{RowTree, RowsTree, BoxTree, BoundTree, LocTree, TransTree, Tree, bounds_of}
use Rattle.lang_specs.specs.declared.Which.TheVariants.{Variables, Locations, Transitions, NameBytes, Digits}
use Rattle.lang_specs.specs.declared.Kind.TheVariants.{Lha, EndText}
use Rattle.lang_specs.specs.Marks.{Lined, the, a_number, statement}
use Rattle.lang_specs.specs.Grammar.{IsTree, version}
use Rattle.lang_specs.specs.Limits.{has_at_most}
use Rattle.lang_specs.specs.FirstFault.{IsSpelling}
use Rattle.lang_specs.proofs.SplitLemmas.{both_left, both_right}
use Rattle.model_specs.specs.Constraints.{place_in, constraint, slope_constraint, comparison_rows, slope_row, box_rows}
use Rattle.model_specs.specs.Automata.{within_of, tolerances, constraint_rows, init_rows, invariant_rows, box_of, rows_of_box, variable_at, also_rows, slope_rows, location_of, transition_comparisons, transition_of, location_names, automaton_of, automata_of}
use Rattle.model_specs.specs.Faults.{unknown, unknown_in_rows, acts_faults, transition_faults, tree_faults, faults_after, faults_of}
use Rattle.model_specs.proofs.NameLemmas.{AreGood, good_text}
use Rattle.model_specs.proofs.TreeLemmas.{good_front, good_rest, in_order_all, tree_is, IsBoxed, AreClosed, IsSoundLocation, IsSoundTree}
use Rattle.model_specs.proofs.WidthLemmas.{each_append, each_flat, comparison_wide, IsHomogeneous, slopes_homogeneous}
use Rattle.model_specs.proofs.SlopeLemmas.{slope_length, slope_homogeneous, boxes_stand}
use Rattle.model_specs.proofs.NoFaultLemmas.{none_left, none_right, found_holds, known, place_within, HasEachBox, boxes_there, right_tree}

-- ---- tolerances

zero_tolerance : IsLowest zero_fraction × AtMost zero_fraction zero_fraction
unfolding gcd
zero_tolerance = (record { positive = omega (arith, ints); lowest_terms = refl }, omega (arith, ints))

tolerance_is : (bounds : List BoundTree) (var : List ℕ) (o : Option BoundTree) → AllByRecursion (λ b. IsLiteralNumber b.within) bounds →
    find (λ b. bytes_eq b.var var) bounds ≡ o → IsLowest (within_of o) × AtMost zero_fraction (within_of o)
tolerance_is bounds var None h e = zero_tolerance
tolerance_is bounds var (Some b) h e =
    let is = found_holds (λ z. IsLiteralNumber z.within) (λ z. bytes_eq z.var var) bounds b h e in
    let some = is.at_least_zero in (is.lowest_terms, omega (arith, ints, some))

tolerances_are : (t : Tree) (vars : List (List ℕ)) → AllByRecursion (λ b. IsLiteralNumber b.within) (bounds_of t.obs) →
    AllByRecursion (λ w. IsLowest w × AtMost zero_fraction w) (map (λ var. within_of (find (λ b. bytes_eq b.var var) (bounds_of t.obs))) vars)
tolerances_are t [] h = tt
tolerances_are t (var ∷ vars) h = (tolerance_is (bounds_of t.obs) var (find (λ b. bytes_eq b.var var) (bounds_of t.obs)) h refl, tolerances_are t vars h)

-- ---- locations

abbrev IsWide : ℕ → Row → Type 0
IsWide n r = length r.coef ≡ n

constraints_wide : (vars : List (List ℕ)) (n : ℕ) (rows : List RowTree) → AllWide n (constraint_rows vars n rows)
constraints_wide vars n rows =
    All-from_recursion (IsWide n) (constraint_rows vars n rows)
    (each_flat (IsWide n) (λ r. comparison_rows n (constraint vars r)) (λ r. comparison_wide n (constraint vars r)) rows)

init_wide : (vars : List (List ℕ)) (o : Option RowsTree) → IfSome (init_rows vars o) (AllWide (length vars))
init_wide vars None = tt
init_wide vars (Some r) = constraints_wide vars (length vars) r.rows

invariant_wide : (vars : List (List ℕ)) (o : Option RowsTree) → AllWide (length vars) (invariant_rows vars o)
invariant_wide vars None = All-from_recursion (IsWide (length vars)) [] tt
invariant_wide vars (Some r) = constraints_wide vars (length vars) r.rows

box_rows_are : (P : Row → Type 0) (m j : ℕ) → ((c n : ℤ) → P (slope_row m j c n)) → (o : Option BoxTree) → AllByRecursion P (rows_of_box m j o)
box_rows_are P m j h None = tt
box_rows_are P m j h (Some b) = (h _ _, (h _ _, tt))

also_wide : (vars : List (List ℕ)) (o : Option RowsTree) → AllByRecursion (IsWide (length vars + 1)) (also_rows vars o)
also_wide vars None = tt
also_wide vars (Some r) = each_flat _ _ (λ x. comparison_wide (length vars + 1) (slope_constraint vars x)) r.rows

closed_flat : (vars : List (List ℕ)) (rows : List RowTree) → AreClosed (Some (record { line = 0; rows = rows })) →
    AllByRecursion IsHomogeneous (flat_map (λ x. comparison_rows (length vars + 1) (slope_constraint vars x)) rows)
closed_flat vars [] h = tt
closed_flat vars (x ∷ rows) h = each_append IsHomogeneous _ _ (slopes_homogeneous vars x h.0) (closed_flat vars rows h.1)

also_homogeneous : (vars : List (List ℕ)) (o : Option RowsTree) → AreClosed o → AllByRecursion IsHomogeneous (also_rows vars o)
also_homogeneous vars None h = tt
also_homogeneous vars (Some r) h = closed_flat vars r.rows h

-- the rows of the boxes of variable j
abbrev rows_at : Tree → LocTree → ℕ → List Row
rows_at t l j = rows_of_box (length t.vars) j (box_of l.flow.boxes (variable_at t.vars j))

slopes_are : (P : Row → Type 0) (t : Tree) (l : LocTree) → ((j : ℕ) (c n : ℤ) → P (slope_row (length t.vars) j c n)) → AllByRecursion P (also_rows t.vars l.also) →
    All P (slope_rows t.vars l)
slopes_are P t l h k =
    All-from_recursion P (slope_rows t.vars l)
    (each_append P (flat_map (rows_at t l) (below (length t.vars))) (also_rows t.vars l.also)
    (each_flat P (rows_at t l) (λ j. box_rows_are P (length t.vars) j (h j) (box_of l.flow.boxes (variable_at t.vars j))) (below (length t.vars))) k)

box_at : (t : Tree) (l : LocTree) → IsSoundLocation l → HasEachBox t l → (j : ℕ) → j < length t.vars →
    (b : BoxTree) × IsBoxed b × (rows_at t l j ≡ box_rows (length t.vars) j b)
box_at t l sound there j h =
    let (b, e) = All-from_recursion (λ var. (b : BoxTree) × (box_of l.flow.boxes var ≡ Some b)) t.vars there j [] h in
    (b, found_holds IsBoxed (λ z. bytes_eq z.var (variable_at t.vars j)) l.flow.boxes b sound.boxes e, ap (rows_of_box (length t.vars) j) e)

location_well : (t : Tree) (l : LocTree) → IsSoundLocation l → HasEachBox t l → IsLocation (length t.vars) (location_of t.vars l)
location_well t l sound there =
    let boxes = boxes_stand (length t.vars) (rows_at t l) (also_rows t.vars l.also) (box_at t l sound there) in
    record {
      name = sound.name;
      init = init_wide t.vars l.init;
      invariant = invariant_wide t.vars l.inv;
      slopes = slopes_are (IsWide (length t.vars + 1)) t l (slope_length (length t.vars)) (also_wide t.vars l.also);
      homogeneous = slopes_are IsHomogeneous t l (slope_homogeneous (length t.vars)) (also_homogeneous t.vars l.also sound.closed);
      boxed = boxes.0;
      boxes = boxes.1;
    }

locations_well : (t : Tree) (ls : List LocTree) → AllByRecursion IsSoundLocation ls → AllByRecursion (HasEachBox t) ls →
    AllByRecursion (IsLocation (length t.vars)) (map (location_of t.vars) ls)
locations_well t [] h k = tt
locations_well t (l ∷ ls) h k = (location_well t l h.0 k.0, locations_well t ls h.1 k.1)

-- ---- transitions

transition_well : (t : Tree) (e : TransTree) → is_name e.label ≡ true → transition_faults t e ≡ [] →
    IsTransition (length t.vars) (length (map (location_of t.vars) t.locs)) (transition_of t.vars (location_names t) e)
transition_well t e label none =
    let first = unknown e.line (location_names t) e.from in
    let second = unknown e.line (location_names t) e.to in
    let third = unknown_in_rows e.line t.vars e.guard in
    let fourth = acts_faults e.line t.vars [] e.acts in
    let names : first ++ second ≡ [] =
    none_left (first ++ second) third (none_left (first ++ second ++ third) fourth (none_left (first ++ second ++ third ++ fourth) _ none)) in
    let from = place_within (location_names t) e.from (known e.line (location_names t) e.from (none_left first second names)) in
    let to = place_within (location_names t) e.to (known e.line (location_names t) e.to (none_right first second names)) in
    let count : length (location_names t) ≡ length (map (location_of t.vars) t.locs) =
    length-map t.locs (λ l. l.name) ∙ sym (length-map t.locs (location_of t.vars)) in
    record {
      label = label;
      source = subst (λ n. place_in (location_names t) e.from < n) count from;
      target = subst (λ n. place_in (location_names t) e.to < n) count to;
      relation = All-from_recursion (IsWide (length t.vars + length t.vars)) _
          (each_flat (IsWide (length t.vars + length t.vars)) (comparison_rows (length t.vars + length t.vars)) (comparison_wide (length t.vars + length t.vars)) (transition_comparisons t.vars e));
    }

transitions_well : (t : Tree) (es : List TransTree) → AllByRecursion (λ e. is_name e.label ≡ true) es → flat_map (transition_faults t) es ≡ [] →
    AllByRecursion (IsTransition (length t.vars) (length (map (location_of t.vars) t.locs))) (map (transition_of t.vars (location_names t)) es)
transitions_well t [] h none = tt
transitions_well t (e ∷ es) h none = (
  transition_well t e h.0 (none_left (transition_faults t e) (flat_map (transition_faults t) es) none),
  transitions_well t es h.1 (none_right (transition_faults t e) (flat_map (transition_faults t) es) none),
)

-- ---- automata

-- the counts of a tree keep to their limits
pub record IsSmallTree (t : Tree) : Type 0 where
  pub variables : has_at_most 6 t.vars ≡ true
  pub locations : has_at_most 32 t.locs ≡ true
  pub transitions : has_at_most 128 t.trans ≡ true

automaton_well : (before : List (List ℕ)) (t : Tree) → IsSoundTree t → IsSmallTree t → tree_faults before t ≡ [] → IsWellFormed (automaton_of t)
automaton_well before t sound small none =
    let places = length-map t.locs (location_of t.vars) in
    let jumps = length-map t.trans (transition_of t.vars (location_names t)) in
    let some = sound.some_location in
    let few = leb-true (length t.locs) 32 small.locations in
    let rare = leb-true (length t.trans) 128 small.transitions in
    record {
      name = sound.name;
      variables = (sound.some_variable, leb-true (length t.vars) 6 small.variables);
      variable_names = All-from_recursion (λ x. IsTrue (is_name x)) t.vars sound.variables;
      locations = (omega (arith, places, some), omega (arith, places, few));
      transitions = omega (arith, jumps, rare);
      tolerances = (length-map t.vars _, All-from_recursion _ (tolerances t) (tolerances_are t t.vars sound.bounds));
      each_location = All-from_recursion (IsLocation (length t.vars)) (map (location_of t.vars) t.locs)
          (locations_well t t.locs sound.locations (boxes_there before t none));
      each_transition = All-from_recursion (IsTransition (length t.vars) (length (map (location_of t.vars) t.locs))) (map (transition_of t.vars (location_names t)) t.trans)
          (transitions_well t t.trans sound.labels (right_tree before t none).transitions);
    }

automata_well : (before : List (List ℕ)) (trees : List Tree) → AllByRecursion IsSoundTree trees → AllByRecursion IsSmallTree trees →
    faults_after before trees ≡ [] → AllByRecursion IsWellFormed (map automaton_of trees)
automata_well before [] sound small none = tt
automata_well before (t ∷ ts) sound small none = (
  automaton_well before t sound.0 small.0 (none_left (tree_faults before t) (faults_after (before ++ t.name ∷ []) ts) none),
  automata_well (before ++ t.name ∷ []) ts sound.1 small.1 (none_right (tree_faults before t) (faults_after (before ++ t.name ∷ []) ts) none),
)

all_well : (trees : List Tree) → AllByRecursion IsSoundTree trees → AllByRecursion IsSmallTree trees → faults_after [] trees ≡ [] →
    All IsWellFormed (map automaton_of trees)
all_well trees sound small none = All-from_recursion IsWellFormed (map automaton_of trees) (automata_well [] trees sound small none)

small_trees : (trees : List Tree) → list_all (λ t. has_at_most 6 t.vars && has_at_most 6 (bounds_of t.obs)) trees ≡ true →
    list_all (λ t. has_at_most 32 t.locs) trees ≡ true → list_all (λ t. has_at_most 128 t.trans) trees ≡ true → AllByRecursion IsSmallTree trees
small_trees [] h k l = tt
small_trees (t ∷ ts) h k l = (
  record {
    variables = both_left _ _ (both_left (has_at_most 6 t.vars && has_at_most 6 (bounds_of t.obs)) _ h);
    locations = both_left (has_at_most 32 t.locs) _ k;
    transitions = both_left (has_at_most 128 t.trans) _ l;
  },
  small_trees ts (both_right (has_at_most 6 t.vars && has_at_most 6 (bounds_of t.obs)) _ h) (both_right (has_at_most 32 t.locs) _ k) (both_right (has_at_most 128 t.trans) _ l),
)

-- what the limits of a text and its grammar give
sound_trees : (text : List ℕ) (trees : List Tree) → IsSpelling text trees → AllByRecursion IsSoundTree trees
sound_trees text trees s =
    let (second, first_line, last_line, rest, e, some, order) = s.spelled in
    let first = statement first_line (the Lha ∷ a_number (version second) ∷ []) in
    let last : List Lined = record { line = last_line; mark = the EndText } ∷ [] in
    let good = subst AreGood e (good_text text (s.kept NameBytes) (s.kept Digits)) in
    in_order_all (IsTree second) IsSoundTree (tree_is second) rest trees (good_rest first rest (good_front (first ++ rest) last good)) order

pub spelled_well : (text : List ℕ) (trees : List Tree) → IsSpelling text trees → faults_of trees ≡ [] → All IsWellFormed (automata_of trees)
spelled_well text trees s none =
    all_well trees (sound_trees text trees s) (small_trees trees (s.kept Variables) (s.kept Locations) (s.kept Transitions)) none
