-- The lines of faults do not fall, since those of the statements do not.
use Rattle.std.proofs.Common.{◌≡◌, ℕ, zero, suc, ◌+◌, ◌<◌, ◌≤◌, Bool, true, false, if◌then◌else◌, List, [], ◌∷◌, ◌++◌, length, get_or, Option, Some, None, refl, subst, arith}
use Rattle.std.specs.Prelude.{not, flat_map}
use Rattle.std.specs.List.{AllByRecursion, list_any}
use Rattle.std.specs.List.Sorted.{IsNonDecreasingBy}
use Rattle.number_specs.specs.Digits.{is_digit}
use Rattle.lang_specs.specs.declared.Kind.{Kind}
use Rattle.lang_specs.specs.declared.Kind.TheVariants as kinds
use Rattle.lang_specs.specs.Tokens.{Placed, begins_comment, is_blank, cut, line_tokens}
use Rattle.lang_specs.specs.Lines.{lines_of, unless_bare, tokens_from, text_tokens}
use Rattle.lang_specs.specs.Marks.{Mark, the, a_name, a_number, Lined, lined, statement}
use Rattle.lang_specs.specs.Trees.{Term, RowTree, RowsTree, BoxTree, BoundTree, BoundsTree, LocTree, Act, Set, Within, Free, TransTree, Tree}
use Rattle.lang_specs.specs.Grammar.{AreInOrder, IsRowsLine, unsafe_if, IsLoc, IsTrans, IsObs, IsTree, version}
use Rattle.lang_specs.specs.FirstFault.{IsSpelling}
use Rattle.model_specs.specs.Automata.{box_of, act_name, transition_comparisons, location_names}
use Rattle.model_specs.specs.Constraints.{constraint, slope_constraint, comparison_numbers}
use Rattle.model_specs.specs.Faults.{ModelFault, UnknownName, RepeatedName, MissingSlope, EmptyBox, Passes, line_of, if_so, is_among, some_passes, is_empty_box, unknown, repeated, repeated_in, names_in, unknown_in, unknown_in_rows, rows_faults, also_faults, missing_slope, boxes_faults, location_faults, locations_faults, unknown_in_act, acts_faults, transition_faults, bounds_faults, obs_faults, tree_faults, faults_after, faults_of}
use Rattle.model_specs.proofs.WidthLemmas.{each_append, each_flat}

-- ---- numbers that climb

-- the numbers of the list do not fall, from a to b
abbrev ClimbBy : {X : Type 0} → (X → ℕ) → ℕ → List X → ℕ → Type 0
ClimbBy n a [] b = a ≤ b
ClimbBy n a (x ∷ xs) b = (a ≤ n x) × ClimbBy n (n x) xs b

module _ {X : Type 0} (n : X → ℕ) where
  climb_on : (a b c : ℕ) (xs : List X) → a ≤ b → ClimbBy n b xs c → ClimbBy n a xs c
  climb_on a b c [] h k = omega (arith, h, k)
  climb_on a b c (x ∷ xs) h k = let l = k.0 in (omega (arith, h, l), k.1)

  climb_append : (a b c : ℕ) (xs ys : List X) → ClimbBy n a xs b → ClimbBy n b ys c → ClimbBy n a (xs ++ ys) c
  climb_append a b c [] ys h k = climb_on a b c ys h k
  climb_append a b c (x ∷ xs) ys h k = (h.0, climb_append (n x) b c xs ys h.1 k)

  climb_over : (a b : ℕ) (xs : List X) → ClimbBy n a xs b → a ≤ b
  climb_over a b [] h = h
  climb_over a b (x ∷ xs) h = let k = climb_over (n x) b xs h.1 in let l = h.0 in omega (arith, k, l)

  climb_cut : (a c : ℕ) (xs ys : List X) → ClimbBy n a (xs ++ ys) c → (b : ℕ) × ClimbBy n a xs b × ClimbBy n b ys c
  climb_cut a c [] ys h = (a, omega arith, h)
  climb_cut a c (x ∷ xs) ys h = let (b, k, l) = climb_cut (n x) c xs ys h.1 in (b, (h.0, k), l)

  climb_at : (line a b : ℕ) (xs : List X) → AllByRecursion (λ x. n x ≡ line) xs → a ≤ line → line ≤ b → ClimbBy n a xs b
  climb_at line a b [] h k l = omega (arith, k, l)
  climb_at line a b (x ∷ xs) h k l =
      let e = h.0 in (omega (arith, e, k), climb_at line (n x) b xs h.1 (omega (arith, e)) l)

  climb_end : (a b c : ℕ) (xs : List X) → ClimbBy n a xs b → b ≤ c → ClimbBy n a xs c
  climb_end a b c [] h k = omega (arith, h, k)
  climb_end a b c (x ∷ xs) h k = (h.0, climb_end (n x) b c xs h.1 k)

  climb_later : (a b : ℕ) (xs : List X) → ClimbBy n a xs b → (j : ℕ) (d : X) → j < length xs → a ≤ n (get_or xs j d)
  climb_later a b [] h j d l = absurd (omega (arith, l))
  climb_later a b (x ∷ xs) h zero d l = h.0
  climb_later a b (x ∷ xs) h (suc j) d l = let k = h.0 in let m = climb_later (n x) b xs h.1 j d (omega (arith, l)) in omega (arith, k, m)

  climb_order : (a b : ℕ) (xs : List X) → ClimbBy n a xs b → (i j : ℕ) (d : X) → i ≤ j → j < length xs → n (get_or xs i d) ≤ n (get_or xs j d)
  climb_order a b [] h i j d k l = absurd (omega (arith, l))
  climb_order a b (x ∷ xs) h zero zero d k l = omega arith
  climb_order a b (x ∷ xs) h zero (suc j) d k l = climb_later (n x) b xs h.1 j d (omega (arith, l))
  climb_order a b (x ∷ xs) h (suc i) zero d k l = absurd (omega (arith, k))
  climb_order a b (x ∷ xs) h (suc i) (suc j) d k l = climb_order (n x) b xs h.1 i j d (omega (arith, k)) (omega (arith, l))

-- tokens climb
abbrev Rise : ℕ → List Lined → ℕ → Type 0
Rise a ls b = ClimbBy (λ l. l.line) a ls b

-- faults climb
abbrev AreTold : ℕ → List ModelFault → ℕ → Type 0
AreTold a fs b = ClimbBy line_of a fs b

-- ---- the tokens of a text

-- each is in this line
abbrev AreInLine : ℕ → List Placed → Type 0
AreInLine line ts = AllByRecursion (λ t. t.line ≡ line) ts

one_of_three : (line : ℕ) (a b : Bool) (xs ys zs : List Placed) → AreInLine line xs → AreInLine line ys → AreInLine line zs →
    AreInLine line (if a then xs else if b then ys else zs)
one_of_three line true b xs ys zs h i j = h
one_of_three line false true xs ys zs h i j = i
one_of_three line false false xs ys zs h i j = j

cut_in_line : (line inside column last : ℕ) (behind : Bool) (bytes : List ℕ) → AreInLine line (cut line inside column last behind bytes)
unfolding cut
cut_in_line line inside column last behind [] = (refl, tt)
cut_in_line line (suc inside) column last behind (b ∷ bytes) = cut_in_line line inside (column + 1) last behind bytes
cut_in_line line zero column last behind (b ∷ bytes) =
    one_of_three line (is_blank b) (begins_comment b) _ _ _ (cut_in_line line 0 (column + 1) last false bytes) (refl, tt)
    (refl, cut_in_line line _ (column + 1) _ (is_digit b) bytes)

bare_in_line : (line : ℕ) (ts : List Placed) → AreInLine line ts → AreInLine line (unless_bare ts)
bare_in_line line [] h = tt
bare_in_line line (t ∷ []) h = tt
bare_in_line line (t ∷ u ∷ ts) h = h

tokens_climb : (line : ℕ) (ls : List (List ℕ)) → (b : ℕ) × ClimbBy (λ t. t.line) line (tokens_from line ls) b
tokens_climb line [] = (line, (omega arith, omega arith))
tokens_climb line (l ∷ ls) =
    let (b, h) = tokens_climb (line + 1) ls in (
      b,
      climb_append (λ t. t.line) line (line + 1) b (unless_bare (line_tokens line l)) (tokens_from (line + 1) ls)
          (climb_at (λ t. t.line) line line (line + 1) (unless_bare (line_tokens line l)) (bare_in_line line (line_tokens line l) (cut_in_line line 0 1 1 false l)) (omega arith) (omega arith)) h,
    )

lined_climb : (a b : ℕ) (ts : List Placed) → ClimbBy (λ t. t.line) a ts b → Rise a (lined ts) b
lined_climb a b [] h = h
lined_climb a b (t ∷ ts) h = (h.0, lined_climb t.line b ts h.1)

text_climbs : (text : List ℕ) → (b : ℕ) × Rise 1 (lined (text_tokens text)) b
text_climbs text = let (b, h) = tokens_climb 1 (lines_of text) in (b, lined_climb 1 b (text_tokens text) h)

-- a statement stands in its line
statement_in : (line a b : ℕ) (ms : List Mark) → Rise a (statement line ms) b → (a ≤ line) × (line ≤ b)
statement_in line a b [] h = h
statement_in line a b (m ∷ ms) h = (h.0, (statement_in line line b ms h.1).1)

-- ---- faults of one line

-- each is of this line
abbrev AreOf : ℕ → List ModelFault → Type 0
AreOf line fs = AllByRecursion (λ f. line_of f ≡ line) fs

so_of : (line : ℕ) (b : Bool) (f : ModelFault) → line_of f ≡ line → AreOf line (if_so b f)
so_of line true f e = (e, tt)
so_of line false f e = tt

both_of : (line : ℕ) (fs gs : List ModelFault) → AreOf line fs → AreOf line gs → AreOf line (fs ++ gs)
both_of line fs gs h k = each_append (λ f. line_of f ≡ line) fs gs h k

unknown_of : (line : ℕ) (names : List (List ℕ)) (name : List ℕ) → AreOf line (unknown line names name)
unknown_of line names name = so_of line (not (is_among names name)) (UnknownName line name) refl

repeated_of : (line : ℕ) (names : List (List ℕ)) (name : List ℕ) → AreOf line (repeated line names name)
repeated_of line names name = so_of line (is_among names name) (RepeatedName line name) refl

-- a name that is to be known and to stand once
names_of : (line : ℕ) (vars before : List (List ℕ)) (name : List ℕ) → AreOf line (unknown line vars name ++ repeated line before name)
names_of line vars before name = both_of line (unknown line vars name) (repeated line before name) (unknown_of line vars name) (repeated_of line before name)

repeated_in_of : (line : ℕ) (before names : List (List ℕ)) → AreOf line (repeated_in line before names)
repeated_in_of line before [] = tt
repeated_in_of line before (x ∷ xs) =
    both_of line (repeated line before x) (repeated_in line (before ++ x ∷ []) xs) (repeated_of line before x) (repeated_in_of line (before ++ x ∷ []) xs)

unknown_in_of : (line : ℕ) (vars : List (List ℕ)) (terms : List Term) → AreOf line (unknown_in line vars terms)
unknown_in_of line vars terms = each_flat (λ f. line_of f ≡ line) (unknown line vars) (unknown_of line vars) (names_in terms)

unknown_in_rows_of : (line : ℕ) (vars : List (List ℕ)) (rows : List RowTree) → AreOf line (unknown_in_rows line vars rows)
unknown_in_rows_of line vars rows =
    each_flat (λ f. line_of f ≡ line) (λ r. unknown_in line vars r.left ++ unknown_in line vars r.right)
    (λ r. both_of line (unknown_in line vars r.left) (unknown_in line vars r.right) (unknown_in_of line vars r.left) (unknown_in_of line vars r.right)) rows

rows_of : (line : ℕ) (t : Tree) (rows : List RowTree) (passing : Bool) → AreOf line (unknown_in_rows line t.vars rows ++ if_so passing (Passes line t.name))
rows_of line t rows passing =
    both_of line (unknown_in_rows line t.vars rows) (if_so passing (Passes line t.name)) (unknown_in_rows_of line t.vars rows) (so_of line passing (Passes line t.name) refl)

missing_or : (line : ℕ) (var : List ℕ) (others : List ModelFault) (o : Option BoxTree) → AreOf line others →
    AreOf line (elim o as (λ z. List ModelFault) [ None ↦ MissingSlope line var ∷ [] | Some b ↦ others ])
missing_or line var others None h = (refl, tt)
missing_or line var others (Some b) h = h

missing_of : (line : ℕ) (boxes : List BoxTree) (vars : List (List ℕ)) → AreOf line (missing_slope line boxes vars)
missing_of line boxes [] = tt
missing_of line boxes (var ∷ vars) = missing_or line var (missing_slope line boxes vars) (box_of boxes var) (missing_of line boxes vars)

boxes_of : (line : ℕ) (vars before : List (List ℕ)) (bs : List BoxTree) → AreOf line (boxes_faults line vars before bs)
boxes_of line vars before [] = tt
boxes_of line vars before (b ∷ bs) =
    let names = unknown line vars b.var ++ repeated line before b.var in
    let empty = if_so (is_empty_box b) (EmptyBox line b.var) in
    both_of line (names ++ empty) (boxes_faults line vars (before ++ b.var ∷ []) bs)
    (both_of line names empty (names_of line vars before b.var) (so_of line (is_empty_box b) (EmptyBox line b.var) refl)) (boxes_of line vars (before ++ b.var ∷ []) bs)

act_of : (line : ℕ) (vars : List (List ℕ)) (a : Act) → AreOf line (unknown_in_act line vars a)
act_of line vars (Set var value) = unknown_in_of line vars value
act_of line vars (Within var lo hi) = both_of line (unknown_in line vars lo) (unknown_in line vars hi) (unknown_in_of line vars lo) (unknown_in_of line vars hi)
act_of line vars (Free var) = tt

acts_of : (line : ℕ) (vars before : List (List ℕ)) (acts : List Act) → AreOf line (acts_faults line vars before acts)
acts_of line vars before [] = tt
acts_of line vars before (a ∷ acts) =
    let names = unknown line vars (act_name a) ++ repeated line before (act_name a) in
    both_of line (names ++ unknown_in_act line vars a) (acts_faults line vars (before ++ act_name a ∷ []) acts)
    (both_of line names (unknown_in_act line vars a) (names_of line vars before (act_name a)) (act_of line vars a)) (acts_of line vars (before ++ act_name a ∷ []) acts)

bounds_of : (line : ℕ) (vars before : List (List ℕ)) (bs : List BoundTree) → AreOf line (bounds_faults line vars before bs)
bounds_of line vars before [] = tt
bounds_of line vars before (b ∷ bs) =
    both_of line (unknown line vars b.var ++ repeated line before b.var) (bounds_faults line vars (before ++ b.var ∷ []) bs) (names_of line vars before b.var) (bounds_of line vars (before ++ b.var ∷ []) bs)

jump_of : (t : Tree) (e : TransTree) → AreOf e.line (transition_faults t e)
jump_of t e =
    let first = unknown e.line (location_names t) e.from in
    let second = unknown e.line (location_names t) e.to in
    let third = unknown_in_rows e.line t.vars e.guard in
    let fourth = acts_faults e.line t.vars [] e.acts in
    let passing = list_any (λ c. some_passes (comparison_numbers (length t.vars + length t.vars) c)) (transition_comparisons t.vars e) in
    both_of e.line (first ++ second ++ third ++ fourth) (if_so passing (Passes e.line t.name))
    (both_of e.line (first ++ second ++ third) fourth
    (both_of e.line (first ++ second) third (both_of e.line first second (unknown_of e.line (location_names t) e.from) (unknown_of e.line (location_names t) e.to)) (unknown_in_rows_of e.line t.vars e.guard))
    (acts_of e.line t.vars [] e.acts))
    (so_of e.line passing (Passes e.line t.name) refl)

-- ---- statements

told : (line a b : ℕ) (ms : List Mark) (ls : List Lined) (fs : List ModelFault) → AreOf line fs → ls ≡ statement line ms → Rise a ls b → AreTold a fs b
told line a b ms ls fs h e r = let (k, l) = statement_in line a b ms (subst (λ z. Rise a z b) e r) in climb_at line_of line a b fs h k l

rows_told : (strict : Bool) (k : Kind) (t : Tree) (o : Option RowsTree) (a b : ℕ) (ls : List Lined) → IsRowsLine strict k ls o → Rise a ls b → AreTold a (rows_faults t o) b
rows_told strict k t None a b ls h r = climb_over (λ l. l.line) a b ls r
rows_told strict k t (Some o) a b ls (ms, e, h) r =
    let passing = list_any (λ x. some_passes (comparison_numbers (length t.vars) (constraint t.vars x))) o.rows in
    told o.line a b (the k ∷ ms) ls (rows_faults t (Some o)) (rows_of o.line t o.rows passing) e r

also_told : (t : Tree) (o : Option RowsTree) (a b : ℕ) (ls : List Lined) → IsRowsLine false kinds.Also ls o → Rise a ls b → AreTold a (also_faults t o) b
also_told t None a b ls h r = climb_over (λ l. l.line) a b ls r
also_told t (Some o) a b ls (ms, e, h) r =
    let passing = list_any (λ x. some_passes (comparison_numbers (length t.vars + 1) (slope_constraint t.vars x))) o.rows in
    told o.line a b (the kinds.Also ∷ ms) ls (also_faults t (Some o)) (rows_of o.line t o.rows passing) e r

obs_told : (second : Bool) (t : Tree) (o : Option BoundsTree) (a b : ℕ) (ls : List Lined) → IsObs second ls o → Rise a ls b → AreTold a (obs_faults t o) b
obs_told second t None a b ls h r = climb_over (λ l. l.line) a b ls r
obs_told second t (Some o) a b ls (s, (ms, e, h)) r = told o.line a b (the kinds.Obs ∷ ms) ls (obs_faults t (Some o)) (bounds_of o.line t.vars [] o.bounds) e r

-- ---- locations

location_told : (second : Bool) (t : Tree) (before : List (List ℕ)) (l : LocTree) (a b : ℕ) (ls : List Lined) → IsLoc second ls l → Rise a ls b →
    AreTold a (location_faults t before l) b
location_told second t before l a b ls (init, inv, flow, also, e, h, i, (ms, p, q), k) r =
    let first = statement l.line (the kinds.Loc ∷ a_name l.name ∷ unsafe_if l.is_unsafe) in
    let (d, r4, r5) = climb_cut (λ z. z.line) a b (first ++ init ++ inv ++ flow) also (subst (λ z. Rise a z b) e r) in
    let (c, r3, s4) = climb_cut (λ z. z.line) a d (first ++ init ++ inv) flow r4 in
    let (v, r2, s3) = climb_cut (λ z. z.line) a c (first ++ init) inv r3 in
    let (u, s1, s2) = climb_cut (λ z. z.line) a v first init r2 in
    let head = repeated l.line before l.name ++ missing_slope l.line l.flow.boxes t.vars in
    let boxes = boxes_faults l.flow.line t.vars [] l.flow.boxes in
    let f1 : AreTold a head u = told l.line a u (the kinds.Loc ∷ a_name l.name ∷ unsafe_if l.is_unsafe) first head
    (both_of l.line (repeated l.line before l.name) (missing_slope l.line l.flow.boxes t.vars) (repeated_of l.line before l.name) (missing_of l.line l.flow.boxes t.vars)) refl s1 in
    let f2 = climb_append line_of a u v head (rows_faults t l.init) f1 (rows_told second kinds.Init t l.init u v init h s2) in
    let f3 = climb_append line_of a v c (head ++ rows_faults t l.init) (rows_faults t l.inv) f2 (rows_told second kinds.Inv t l.inv v c inv i s3) in
    let f4 = climb_append line_of a c d (head ++ rows_faults t l.init ++ rows_faults t l.inv) boxes f3
    (told l.flow.line c d (the kinds.Flow ∷ ms) flow boxes (boxes_of l.flow.line t.vars [] l.flow.boxes) p s4) in
    climb_append line_of a d b (head ++ rows_faults t l.init ++ rows_faults t l.inv ++ boxes) (also_faults t l.also) f4 (also_told t l.also d b also k r5)

locations_told : (second : Bool) (t : Tree) (before : List (List ℕ)) (locs : List LocTree) (a b : ℕ) (ls : List Lined) →
    AreInOrder (IsLoc second) ls locs → Rise a ls b → AreTold a (locations_faults t before locs) b
locations_told second t before [] a b ls h r = climb_over (λ l. l.line) a b ls r
locations_told second t before (l ∷ locs) a b ls (front, rest, e, h, k) r =
    let (c, s, u) = climb_cut (λ z. z.line) a b front rest (subst (λ z. Rise a z b) e r) in
    climb_append line_of a c b (location_faults t before l) (locations_faults t (before ++ l.name ∷ []) locs)
    (location_told second t before l a c front h s) (locations_told second t (before ++ l.name ∷ []) locs c b rest k u)

-- ---- transitions

jump_told : (second : Bool) (t : Tree) (x : TransTree) (a b : ℕ) (ls : List Lined) → IsTrans second ls x → Rise a ls b → AreTold a (transition_faults t x) b
jump_told second t x a b ls (guard, acts, e, h, k) r = told x.line a b (the kinds.Trans ∷ a_name x.from ∷ the kinds.Arrow ∷ a_name x.to ∷ the kinds.As ∷ a_name x.label ∷ guard ++ acts) ls (transition_faults t x) (jump_of t x) e r

jumps_told : (second : Bool) (t : Tree) (xs : List TransTree) (a b : ℕ) (ls : List Lined) → AreInOrder (IsTrans second) ls xs → Rise a ls b →
    AreTold a (flat_map (transition_faults t) xs) b
jumps_told second t [] a b ls h r = climb_over (λ l. l.line) a b ls r
jumps_told second t (x ∷ xs) a b ls (front, rest, e, h, k) r =
    let (c, s, u) = climb_cut (λ z. z.line) a b front rest (subst (λ z. Rise a z b) e r) in
    climb_append line_of a c b (transition_faults t x) (flat_map (transition_faults t) xs) (jump_told second t x a c front h s) (jumps_told second t xs c b rest k u)

-- ---- automata

tree_told : (second : Bool) (before : List (List ℕ)) (t : Tree) (a b : ℕ) (ls : List Lined) → IsTree second ls t → Rise a ls b → AreTold a (tree_faults before t) b
tree_told second before t a b ls (vars, obs, locs, trans, end_line, e, (ms, p, q), o, some, h, k) r =
    let first = statement t.line (the kinds.Automaton ∷ a_name t.name ∷ []) in
    let last = statement end_line (the kinds.End ∷ []) in
    let (y, r5, r6) = climb_cut (λ z. z.line) a b (first ++ vars ++ obs ++ locs ++ trans) last (subst (λ z. Rise a z b) e r) in
    let (x, r4, s5) = climb_cut (λ z. z.line) a y (first ++ vars ++ obs ++ locs) trans r5 in
    let (w, r3, s4) = climb_cut (λ z. z.line) a x (first ++ vars ++ obs) locs r4 in
    let (v, r2, s3) = climb_cut (λ z. z.line) a w (first ++ vars) obs r3 in
    let (u, s1, s2) = climb_cut (λ z. z.line) a v first vars r2 in
    let one = repeated t.line before t.name in
    let two = repeated_in t.var_line [] t.vars in
    let f1 : AreTold a one u = told t.line a u (the kinds.Automaton ∷ a_name t.name ∷ []) first one (repeated_of t.line before t.name) refl s1 in
    let f2 = climb_append line_of a u v one two f1 (told t.var_line u v (the kinds.Var ∷ ms) vars two (repeated_in_of t.var_line [] t.vars) p s2) in
    let f3 = climb_append line_of a v w (one ++ two) (obs_faults t t.obs) f2 (obs_told second t t.obs v w obs o s3) in
    let f4 = climb_append line_of a w x (one ++ two ++ obs_faults t t.obs) (locations_faults t [] t.locs) f3 (locations_told second t [] t.locs w x locs h s4) in
    let f5 = climb_append line_of a x y (one ++ two ++ obs_faults t t.obs ++ locations_faults t [] t.locs) (flat_map (transition_faults t) t.trans) f4
    (jumps_told second t t.trans x y trans k s5) in
    climb_end line_of a y b (tree_faults before t) f5 (climb_over (λ z. z.line) y b last r6)

trees_told : (second : Bool) (before : List (List ℕ)) (ts : List Tree) (a b : ℕ) (ls : List Lined) → AreInOrder (IsTree second) ls ts → Rise a ls b →
    AreTold a (faults_after before ts) b
trees_told second before [] a b ls h r = climb_over (λ l. l.line) a b ls r
trees_told second before (t ∷ ts) a b ls (front, rest, e, h, k) r =
    let (c, s, u) = climb_cut (λ z. z.line) a b front rest (subst (λ z. Rise a z b) e r) in
    climb_append line_of a c b (tree_faults before t) (faults_after (before ++ t.name ∷ []) ts)
    (tree_told second before t a c front h s) (trees_told second (before ++ t.name ∷ []) ts c b rest k u)

pub faults_climb : (text : List ℕ) (trees : List Tree) → IsSpelling text trees → IsNonDecreasingBy line_of (faults_of trees)
faults_climb text trees s =
    let (second, first_line, last_line, rest, e, some, order) = s.spelled in
    let first = statement first_line (the kinds.Lha ∷ a_number (version second) ∷ []) in
    let last : List Lined = record { line = last_line; mark = the kinds.EndText } ∷ [] in
    let (b, r) = text_climbs text in
    let (c, r2, s3) = climb_cut (λ z. z.line) 1 b (first ++ rest) last (subst (λ z. Rise 1 z b) e r) in
    let (a, s1, s2) = climb_cut (λ z. z.line) 1 c first rest r2 in
    climb_order line_of a c (faults_of trees) (trees_told second [] trees a c rest order s2)
