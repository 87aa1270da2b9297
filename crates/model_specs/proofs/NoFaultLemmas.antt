-- What trees without fault hold: names that are known, and once each, and a box for each variable.
use Rattle.std.proofs.Common.{◌≡◌, ℕ, suc, ◌<◌, Bool, true, false, ◌||◌, not, if◌then◌else◌, List, [], ◌∷◌, ◌++◌, length, map, Option, Some, None, refl, sym, ◌∙◌, subst, arith}
use Rattle.std.specs.Prelude.{⊤, bytes_eq, flat_map}
use Rattle.std.specs.List.{AllByRecursion, IsDistinct, find, list_any}
use Rattle.std.proofs.lemmas.List.Elements.{All-from_recursion}
use Rattle.std.proofs.lemmas.List.Folds.{list_any-append}
use Rattle.lang_specs.specs.Trees.{BoxTree, LocTree, Tree}
use Rattle.lang_specs.proofs.SplitLemmas.{apart}
use Rattle.model_specs.specs.Constraints.{place_in}
use Rattle.model_specs.specs.Automata.{box_of, location_of, automaton_of, HasDistinctNames, HasOneOfEachName}
use Rattle.model_specs.specs.Faults.{ModelFault, MissingSlope, if_so, is_among, unknown, repeated, repeated_in, missing_slope, obs_faults, rows_faults, boxes_faults, also_faults, location_faults, locations_faults, transition_faults, tree_faults, faults_after}

-- ---- lists

module _ {A : Type 0} where
  pub none_left : (xs ys : List A) → xs ++ ys ≡ [] → xs ≡ []
  none_left [] ys e = refl
  none_left (x ∷ xs) ys e = absurd (let b : ⊥ = cc in b)

  pub none_right : (xs ys : List A) → xs ++ ys ≡ [] → ys ≡ []
  none_right [] ys e = e
  none_right (x ∷ xs) ys e = absurd (let b : ⊥ = cc in b)

  here_or : (P : A → Type 0) (b : Bool) (y x : A) (others : Option A) → P y → (others ≡ Some x → P x) → (if b then Some y else others) ≡ Some x → P x
  here_or P true y x others h k e = let f : y ≡ x = cc in subst P f h
  here_or P false y x others h k e = k e

  pub found_holds : (P : A → Type 0) (p : A → Bool) (xs : List A) (x : A) → AllByRecursion P xs → find p xs ≡ Some x → P x
  found_holds P p [] x h e = absurd (let b : ⊥ = cc in b)
  found_holds P p (y ∷ ys) x h e = here_or P (p y) y x (find p ys) h.0 (found_holds P p ys x h.1) e

-- ---- names

none_so : (b : Bool) (f : ModelFault) → if_so b f ≡ [] → b ≡ false
none_so true f e = absurd (let b : ⊥ = cc in b)
none_so false f e = refl

opposite_of : (b : Bool) → not b ≡ false → b ≡ true
opposite_of true e = refl
opposite_of false e = apart e

pub known : (line : ℕ) (names : List (List ℕ)) (name : List ℕ) → unknown line names name ≡ [] → is_among names name ≡ true
known line names name e = opposite_of (is_among names name) (none_so (not (is_among names name)) _ e)

next_place : (b : Bool) (n place : ℕ) (any : Bool) → (any ≡ true → place < n) → (b || any) ≡ true → (if b then 0 else suc place) < suc n
next_place true n place any h e = omega arith
next_place false n place any h e = let k = h e in omega (arith, k)

pub place_within : (names : List (List ℕ)) (name : List ℕ) → is_among names name ≡ true → place_in names name < length names
place_within [] name e = apart (sym e)
place_within (x ∷ xs) name e = next_place (bytes_eq x name) (length xs) (place_in xs name) (list_any (λ y. bytes_eq y name) xs) (place_within xs name) e

-- ---- names that stand once

-- each name is none of those before it
abbrev pub AreFresh : List (List ℕ) → List (List ℕ) → Type 0
AreFresh before [] = ⊤
AreFresh before (x ∷ xs) = (is_among before x ≡ false) × AreFresh (before ++ x ∷ []) xs

neither_left : (a b : Bool) → (a || b) ≡ false → a ≡ false
neither_left true b e = e
neither_left false b e = refl

neither_right : (a b : Bool) → (a || b) ≡ false → b ≡ false
neither_right true b e = apart e
neither_right false b e = e

last_apart : (before ys : List (List ℕ)) (x : List ℕ) → AllByRecursion (λ y. is_among (before ++ x ∷ []) y ≡ false) ys →
    AllByRecursion (λ y. is_among before y ≡ false) ys × AllByRecursion (λ y. bytes_eq x y ≡ false) ys
last_apart before [] x h = (tt, tt)
last_apart before (y ∷ ys) x h =
    let both : (is_among before y || (bytes_eq x y || false)) ≡ false = sym (list_any-append (λ z. bytes_eq z y) before (x ∷ [])) ∙ h.0 in
    let rest = last_apart before ys x h.1 in (
      (neither_left (is_among before y) (bytes_eq x y || false) both, rest.0),
      (neither_left (bytes_eq x y) false (neither_right (is_among before y) (bytes_eq x y || false) both), rest.1),
    )

fresh_apart : (before xs : List (List ℕ)) → AreFresh before xs → IsDistinct bytes_eq xs × AllByRecursion (λ x. is_among before x ≡ false) xs
unfolding IsDistinct
fresh_apart before [] h = (tt, tt)
fresh_apart before (x ∷ xs) h =
    let rest = fresh_apart (before ++ x ∷ []) xs h.1 in
    let both = last_apart before xs x rest.1 in
    ((both.1, rest.0), (h.0, both.0))

fresh : (line : ℕ) (before : List (List ℕ)) (name : List ℕ) → repeated line before name ≡ [] → is_among before name ≡ false
fresh line before name e = none_so (is_among before name) _ e

fresh_in : (line : ℕ) (before xs : List (List ℕ)) → repeated_in line before xs ≡ [] → AreFresh before xs
fresh_in line before [] e = tt
fresh_in line before (x ∷ xs) e = (
  fresh line before x (none_left (repeated line before x) (repeated_in line (before ++ x ∷ []) xs) e),
  fresh_in line (before ++ x ∷ []) xs (none_right (repeated line before x) (repeated_in line (before ++ x ∷ []) xs) e),
)

-- ---- a location without fault

pub record IsRightLocation (t : Tree) (before : List (List ℕ)) (l : LocTree) : Type 0 where
  pub once : is_among before l.name ≡ false
  pub slopes : missing_slope l.line l.flow.boxes t.vars ≡ []

right_location : (t : Tree) (before : List (List ℕ)) (l : LocTree) → location_faults t before l ≡ [] → IsRightLocation t before l
right_location t before l e =
    let first = repeated l.line before l.name in
    let second = missing_slope l.line l.flow.boxes t.vars in
    let third = rows_faults t l.init in
    let fourth = rows_faults t l.inv in
    let fifth = boxes_faults l.flow.line t.vars [] l.flow.boxes in
    let names : first ++ second ≡ [] =
    none_left (first ++ second) third (none_left (first ++ second ++ third) fourth
    (none_left (first ++ second ++ third ++ fourth) fifth (none_left (first ++ second ++ third ++ fourth ++ fifth) (also_faults t l.also) e))) in
    record { once = fresh l.line before l.name (none_left first second names); slopes = none_right first second names }

fresh_locations : (t : Tree) (before : List (List ℕ)) (ls : List LocTree) → locations_faults t before ls ≡ [] →
    AreFresh before (map (λ l. l.name) (map (location_of t.vars) ls))
fresh_locations t before [] e = tt
fresh_locations t before (l ∷ ls) e = (
  (right_location t before l (none_left (location_faults t before l) (locations_faults t (before ++ l.name ∷ []) ls) e)).once,
  fresh_locations t (before ++ l.name ∷ []) ls (none_right (location_faults t before l) (locations_faults t (before ++ l.name ∷ []) ls) e),
)

-- each variable has a box
abbrev pub HasEachBox : Tree → LocTree → Type 0
HasEachBox t l = AllByRecursion (λ var. (b : BoxTree) × (box_of l.flow.boxes var ≡ Some b)) t.vars

one_there : (line : ℕ) (boxes : List BoxTree) (var : List ℕ) (vars : List (List ℕ)) (o : Option BoxTree) → box_of boxes var ≡ o →
    (elim o as (λ z. List ModelFault) [ None ↦ MissingSlope line var ∷ [] | Some b ↦ missing_slope line boxes vars ]) ≡ [] →
    ((b : BoxTree) × (box_of boxes var ≡ Some b)) × (missing_slope line boxes vars ≡ [])
one_there line boxes var vars None e f = absurd (let b : ⊥ = cc in b)
one_there line boxes var vars (Some b) e f = ((b, e), f)

slopes_there : (line : ℕ) (boxes : List BoxTree) (vars : List (List ℕ)) → missing_slope line boxes vars ≡ [] →
    AllByRecursion (λ var. (b : BoxTree) × (box_of boxes var ≡ Some b)) vars
slopes_there line boxes [] e = tt
slopes_there line boxes (var ∷ vars) e =
    let both = one_there line boxes var vars (box_of boxes var) refl e in
    (both.0, slopes_there line boxes vars both.1)

locations_have_boxes : (t : Tree) (before : List (List ℕ)) (ls : List LocTree) → locations_faults t before ls ≡ [] → AllByRecursion (HasEachBox t) ls
locations_have_boxes t before [] e = tt
locations_have_boxes t before (l ∷ ls) e = (
  slopes_there l.line l.flow.boxes t.vars
      (right_location t before l (none_left (location_faults t before l) (locations_faults t (before ++ l.name ∷ []) ls) e)).slopes,
  locations_have_boxes t (before ++ l.name ∷ []) ls (none_right (location_faults t before l) (locations_faults t (before ++ l.name ∷ []) ls) e),
)

-- ---- a tree without fault

pub record IsRightTree (before : List (List ℕ)) (t : Tree) : Type 0 where
  pub once : is_among before t.name ≡ false
  pub variables : AreFresh [] t.vars
  pub locations : locations_faults t [] t.locs ≡ []
  pub transitions : flat_map (transition_faults t) t.trans ≡ []

pub right_tree : (before : List (List ℕ)) (t : Tree) → tree_faults before t ≡ [] → IsRightTree before t
right_tree before t e =
    let first = repeated t.line before t.name in
    let second = repeated_in t.var_line [] t.vars in
    let third = obs_faults t t.obs in
    let fourth = locations_faults t [] t.locs in
    let last = flat_map (transition_faults t) t.trans in
    let four = none_left (first ++ second ++ third ++ fourth) last e in
    let two = none_left (first ++ second) third (none_left (first ++ second ++ third) fourth four) in
    record {
      once = fresh t.line before t.name (none_left first second two);
      variables = fresh_in t.var_line [] t.vars (none_right first second two);
      locations = none_right (first ++ second ++ third) fourth four;
      transitions = none_right (first ++ second ++ third ++ fourth) last e;
    }

pub boxes_there : (before : List (List ℕ)) (t : Tree) → tree_faults before t ≡ [] → AllByRecursion (HasEachBox t) t.locs
boxes_there before t e = locations_have_boxes t [] t.locs (right_tree before t e).locations

tree_names : (before : List (List ℕ)) (t : Tree) → tree_faults before t ≡ [] → HasDistinctNames (automaton_of t)
tree_names before t e = let right = right_tree before t e in record {
  variables = (fresh_apart [] t.vars right.variables).0;
  locations = (fresh_apart [] (map (λ l. l.name) (map (location_of t.vars) t.locs)) (fresh_locations t [] t.locs right.locations)).0;
}

fresh_trees : (before : List (List ℕ)) (ts : List Tree) → faults_after before ts ≡ [] →
    AreFresh before (map (λ a. a.name) (map automaton_of ts)) × AllByRecursion HasDistinctNames (map automaton_of ts)
fresh_trees before [] e = (tt, tt)
fresh_trees before (t ∷ ts) e =
    let here = none_left (tree_faults before t) (faults_after (before ++ t.name ∷ []) ts) e in
    let rest = fresh_trees (before ++ t.name ∷ []) ts (none_right (tree_faults before t) (faults_after (before ++ t.name ∷ []) ts) e) in
    (((right_tree before t here).once, rest.0), (tree_names before t here, rest.1))

pub names_once : (trees : List Tree) → faults_after [] trees ≡ [] → HasOneOfEachName (map automaton_of trees)
names_once trees e =
    let both = fresh_trees [] trees e in
    ((fresh_apart [] (map (λ a. a.name) (map automaton_of trees)) both.0).0, All-from_recursion HasDistinctNames (map automaton_of trees) both.1)
