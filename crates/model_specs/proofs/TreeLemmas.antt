-- What a text that spells trees says of their names, numbers and signs.
use Rattle.std.proofs.Common.{◌≡◌, inl, inr, ℕ, ◌≤◌, Bool, true, false, List, [], ◌∷◌, ◌++◌, length, Option, Some, None, refl, sym, ap, ◌∙◌, subst, arith, pos, ◌<ℤ◌}
use Rattle.std.specs.Prelude.{⊤}
use Rattle.std.specs.List.{AllByRecursion}
use Rattle.poly_specs.specs.Fractions.{Fraction}
use Rattle.number_specs.specs.Literals.{IsLiteralNumber}
use Rattle.number_specs.proofs.LiteralLemmas.{literals_are}
use Rattle.run_specs.specs.Names.{is_name}
use Rattle.lang_specs.specs.declared.Kind.TheVariants as kinds
use Rattle.lang_specs.specs.Marks.{Mark, the, a_name, Lined, statement}
use Rattle.lang_specs.specs.Trees.{RowTree, RowsTree, BoxTree, BoundTree, BoundsTree, LocTree, TransTree, Tree, bounds_of}
use Rattle.lang_specs.specs.Expressions.{AreJoined, IsSome, IsName, IsLiteral, minus_if, signed, IsNum, IsAllowed, IsRow, AreRows, IsBox, IsBound}
use Rattle.lang_specs.specs.Limits.{is_in_range}
use Rattle.lang_specs.specs.Grammar.{AreInOrder, IsRowsLine, unsafe_if, IsLoc, IsTrans, IsVars, IsObs, IsTree}
use Rattle.lang_specs.proofs.SplitLemmas.{apart}
use Rattle.model_specs.proofs.NameLemmas.{IsGood, AreGood}

-- ---- parts of lists

pub good_front : (xs ys : List Lined) → AreGood (xs ++ ys) → AreGood xs
good_front [] ys h = tt
good_front (x ∷ xs) ys h = (h.0, good_front xs ys h.1)

pub good_rest : (xs ys : List Lined) → AreGood (xs ++ ys) → AreGood ys
good_rest [] ys h = h
good_rest (x ∷ xs) ys h = good_rest xs ys h.1

abbrev AreGoodMarks : List Mark → Type 0
AreGoodMarks [] = ⊤
AreGoodMarks (m ∷ ms) = IsGood m.kind m.text × AreGoodMarks ms

marks_front : (xs ys : List Mark) → AreGoodMarks (xs ++ ys) → AreGoodMarks xs
marks_front [] ys h = tt
marks_front (x ∷ xs) ys h = (h.0, marks_front xs ys h.1)

marks_rest : (xs ys : List Mark) → AreGoodMarks (xs ++ ys) → AreGoodMarks ys
marks_rest [] ys h = h
marks_rest (x ∷ xs) ys h = marks_rest xs ys h.1

marks_of : (line : ℕ) (ms : List Mark) → AreGood (statement line ms) → AreGoodMarks ms
marks_of line [] h = tt
marks_of line (m ∷ ms) h = (h.0, marks_of line ms h.1)

joined_all : {X : Type 0} (Is : List Mark → X → Type 0) (P : X → Type 0) → ((ms : List Mark) (x : X) → AreGoodMarks ms → Is ms x → P x) →
    (ms : List Mark) (xs : List X) → AreGoodMarks ms → AreJoined Is ms xs → AllByRecursion P xs
joined_all Is P each ms [] g h = tt
joined_all Is P each ms (x ∷ []) g h = (each ms x g h, tt)
joined_all Is P each ms (x ∷ y ∷ xs) g (front, rest, e, h, k) =
    let parts = subst AreGoodMarks e g in (
      each front x (marks_front front (the kinds.Comma ∷ rest) parts) h,
      joined_all Is P each rest (y ∷ xs) (marks_rest front (the kinds.Comma ∷ rest) parts).1 k,
    )

joined_some : {X : Type 0} (Is : List Mark → X → Type 0) (ms : List Mark) (xs : List X) → AreJoined Is ms xs → 1 ≤ length xs
joined_some Is ms [] h = absurd h
joined_some Is ms (x ∷ xs) h = omega arith

pub in_order_all : {X : Type 0} (Is : List Lined → X → Type 0) (P : X → Type 0) → ((ls : List Lined) (x : X) → AreGood ls → Is ls x → P x) →
    (ls : List Lined) (xs : List X) → AreGood ls → AreInOrder Is ls xs → AllByRecursion P xs
in_order_all Is P each ls [] g h = tt
in_order_all Is P each ls (x ∷ xs) g (front, rest, e, h, k) =
    let parts = subst AreGood e g in
    (each front x (good_front front rest parts) h, in_order_all Is P each rest xs (good_rest front rest parts) k)

-- ---- numbers

literal_is : (ms : List Mark) (v : Fraction) → AreGoodMarks ms → IsLiteral ms v → IsLiteralNumber v
literal_is ms v g (text, e, inl h) = literals_are text v h
literal_is ms v g (text, e, inr h) = apart (sym (subst AreGoodMarks e g).0 ∙ ap is_in_range h)

signed_den : (neg : Bool) (v : Fraction) → (signed neg v).den ≡ v.den
signed_den true v = refl
signed_den false v = refl

num_is : (ms : List Mark) (v : Fraction) → AreGoodMarks ms → IsNum ms v → pos 0 <ℤ v.den
num_is ms v g (neg, size, front, e, h, k) =
    let is = literal_is front size (marks_rest (minus_if neg) front (subst AreGoodMarks e g)) h in
    subst (λ z. pos 0 <ℤ z) (sym (ap (λ w. w.den) k ∙ signed_den neg size)) is.lowest_terms.positive

-- ---- boxes and bounds

-- both denominators are positive
pub record IsBoxed (b : BoxTree) : Type 0 where
  pub low : pos 0 <ℤ b.lo.den
  pub high : pos 0 <ℤ b.hi.den

box_is : (ms : List Mark) (b : BoxTree) → AreGoodMarks ms → IsBox ms b → IsBoxed b
box_is ms b g (inside, e, (front, rest, p, h, k)) =
    let parts = subst AreGoodMarks p (subst AreGoodMarks e g).1.1 in
    let both = marks_front (the kinds.Open ∷ front ++ the kinds.Comma ∷ rest) (the kinds.Close ∷ []) parts in
    record {
      low = num_is front b.lo (marks_front front (the kinds.Comma ∷ rest) both.1) h;
      high = num_is rest b.hi (marks_rest front (the kinds.Comma ∷ rest) both.1).1 k;
    }

bound_is : (ms : List Mark) (b : BoundTree) → AreGoodMarks ms → IsBound ms b → IsLiteralNumber b.within
bound_is ms b g (rest, e, h) = literal_is rest b.within (subst AreGoodMarks e g).1.1 h

bounds_are : (second : Bool) (ls : List Lined) (o : Option BoundsTree) → AreGood ls → IsObs second ls o → AllByRecursion (λ b. IsLiteralNumber b.within) (bounds_of o)
bounds_are second ls None g h = tt
bounds_are second ls (Some o) g (s, (ms, e, h)) =
    joined_all IsBound (λ b. IsLiteralNumber b.within) bound_is ms o.bounds (marks_of o.line (the kinds.Obs ∷ ms) (subst AreGood e g)).1 h

-- ---- locations

-- no sign of `also` is strict
abbrev pub AreClosed : Option RowsTree → Type 0
AreClosed None = ⊤
AreClosed (Some r) = AllByRecursion (λ x. IsAllowed false x.sign) r.rows

rows_closed : (ms : List Mark) (rows : List RowTree) → AreGoodMarks ms → AreRows false ms rows → AllByRecursion (λ x. IsAllowed false x.sign) rows
rows_closed ms [] g h = tt
rows_closed ms (r ∷ rs) g h = joined_all (IsRow false) (λ x. IsAllowed false x.sign) (λ m x k w. w.4) ms (r ∷ rs) g h

also_closed : (ls : List Lined) (also : Option RowsTree) → AreGood ls → IsRowsLine false kinds.Also ls also → AreClosed also
also_closed ls None g h = tt
also_closed ls (Some r) g (ms, e, h) = rows_closed ms r.rows (marks_of r.line (the kinds.Also ∷ ms) (subst AreGood e g)).1 h

pub record IsSoundLocation (l : LocTree) : Type 0 where
  pub name : is_name l.name ≡ true
  pub boxes : AllByRecursion IsBoxed l.flow.boxes
  pub closed : AreClosed l.also

-- the statement of a location
abbrev loc_line : LocTree → List Lined
loc_line l = statement l.line (the kinds.Loc ∷ a_name l.name ∷ unsafe_if l.is_unsafe)

location_is : (strict : Bool) (ls : List Lined) (l : LocTree) → AreGood ls → IsLoc strict ls l → IsSoundLocation l
location_is strict ls l g (init, inv, flow, also, e, h, i, (ms, p, b), k) =
    let all = subst AreGood e g in
    let first = good_front (loc_line l ++ init ++ inv ++ flow) also all in
    let before = good_front (loc_line l ++ init) inv (good_front (loc_line l ++ init ++ inv) flow first) in
    let boxes = marks_of l.flow.line (the kinds.Flow ∷ ms) (subst AreGood p (good_rest (loc_line l ++ init ++ inv) flow first)) in
    record {
      name = (good_front (loc_line l) init before).1.0;
      boxes = joined_all IsBox IsBoxed box_is ms l.flow.boxes boxes.1 b;
      closed = also_closed also l.also (good_rest (loc_line l ++ init ++ inv ++ flow) also all) k;
    }

-- ---- transitions and automata

label_is : (strict : Bool) (ls : List Lined) (t : TransTree) → AreGood ls → IsTrans strict ls t → is_name t.label ≡ true
label_is strict ls t g (guard, acts, e, h, k) = (subst AreGood e g).1.1.1.1.1.0

vars_are : (ls : List Lined) (t : Tree) → AreGood ls → IsVars ls t → (1 ≤ length t.vars) × AllByRecursion (λ x. is_name x ≡ true) t.vars
vars_are ls t g (ms, e, h) = (
  joined_some IsName ms t.vars h,
  joined_all IsName (λ x. is_name x ≡ true) (λ m x k w. (subst AreGoodMarks w k).0) ms t.vars (marks_of t.var_line (the kinds.Var ∷ ms) (subst AreGood e g)).1 h,
)

some_length : {X : Type 0} (xs : List X) → IsSome xs → 1 ≤ length xs
some_length [] h = absurd h
some_length (x ∷ xs) h = omega arith

pub record IsSoundTree (t : Tree) : Type 0 where
  pub name : is_name t.name ≡ true
  pub some_variable : 1 ≤ length t.vars
  pub variables : AllByRecursion (λ x. is_name x ≡ true) t.vars
  pub bounds : AllByRecursion (λ b. IsLiteralNumber b.within) (bounds_of t.obs)
  pub some_location : 1 ≤ length t.locs
  pub locations : AllByRecursion IsSoundLocation t.locs
  pub labels : AllByRecursion (λ e. is_name e.label ≡ true) t.trans

abbrev automaton_line : Tree → List Lined
automaton_line t = statement t.line (the kinds.Automaton ∷ a_name t.name ∷ [])

pub tree_is : (second : Bool) (ls : List Lined) (t : Tree) → AreGood ls → IsTree second ls t → IsSoundTree t
tree_is second ls t g (vars, obs, locs, trans, end_line, e, v, o, some, h, k) =
    let all = good_front (automaton_line t ++ vars ++ obs ++ locs ++ trans) (statement end_line (the kinds.End ∷ [])) (subst AreGood e g) in
    let to_locs = good_front (automaton_line t ++ vars ++ obs ++ locs) trans all in
    let to_obs = good_front (automaton_line t ++ vars ++ obs) locs to_locs in
    let to_vars = good_front (automaton_line t ++ vars) obs to_obs in
    let variables = vars_are vars t (good_rest (automaton_line t) vars to_vars) v in
    record {
      name = (good_front (automaton_line t) vars to_vars).1.0;
      some_variable = variables.0;
      variables = variables.1;
      bounds = bounds_are second obs t.obs (good_rest (automaton_line t ++ vars) obs to_obs) o;
      some_location = some_length t.locs some;
      locations = in_order_all (IsLoc second) IsSoundLocation (location_is second) locs t.locs (good_rest (automaton_line t ++ vars ++ obs) locs to_locs) h;
      labels = in_order_all (IsTrans second) (λ e. is_name e.label ≡ true) (label_is second) trans t.trans (good_rest (automaton_line t ++ vars ++ obs ++ locs) trans all) k;
    }
